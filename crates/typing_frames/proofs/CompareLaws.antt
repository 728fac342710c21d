-- Frames that are compared.
use Rattle.std.proofs.Common.{◌≡◌, ◌≢◌, suc, ◌≤◌, Bool, true, false, not, ◌&&◌, ◌||◌, List, [], ◌∷◌, length, refl, sym, ◌∙◌, ap, subst}
use Rattle.std.proofs.Math.Bool.{and-false}
use Rattle.type_rules.specs.declared.types.VerificationType.{VerificationType}
use Rattle.type_rules.specs.Assignable.{Hierarchy, is_assignable, are_assignable, are_locals_assignable}
use Rattle.type_rules.specs.Environment.{Environment, TypeFrame}
use Rattle.type_rules.specs.TypeFaults.{is_frame_assignable}
use Rattle.type_lists.specs.declared.store.WordStore.{WordStore}
use Rattle.type_lists.specs.declared.store.Words.{Words}
use Rattle.type_lists.specs.Shown.{first_words, stack_words, EndsBy}
use Rattle.type_lists.specs.Store.{word_at, IsList, IsFixed, Follows}
use Rattle.type_lists.proofs.StoreLaws.{follows_itself}
use Rattle.typing_frames.specs.declared.stores.FrameStores.{FrameStores}
use Rattle.typing_frames.specs.Frames.{shown, LeavesFrames}
use Rattle.typing_frames.proofs.FrameLaws.{type_frame, stores_follow_itself, stores_follow_on}

-- ---- frames that stay

pub leaves_itself : (stores : FrameStores) → LeavesFrames stores stores
leaves_itself stores = record { follows = stores_follow_itself stores; there = λ f h. h; same = λ f h. refl }

pub leaves_on : (a b c : FrameStores) → LeavesFrames a b → LeavesFrames b c → LeavesFrames a c
leaves_on a b c first later = record {
  follows = stores_follow_on a b c first.follows later.follows;
  there = λ f h. later.there f (first.there f h);
  same = λ f h. later.same f (first.there f h) ∙ first.same f h;
}

module _ (old new : FrameStores) where
  pub leaves_stacks : new.locals ≡ old.locals → Follows old.stacks new.stacks
      → ((words : Words) → IsList old.stacks words → IsFixed new.stacks words)
      → ((words : Words) → IsList old.stacks words → word_at new.stacks words ≡ word_at old.stacks words) → LeavesFrames old new
  leaves_stacks e follows fixed same = record {
    follows = record { locals = subst (λ l. Follows old.locals l) (sym e) (follows_itself old.locals); stacks = follows };
    there = λ f h. record {
      locals = subst (λ l. IsList l f.locals) (sym e) h.locals;
      stack = (fixed f.stack h.stack).0;
      locals_end = subst (λ (l : WordStore). EndsBy (word_at l f.locals) l.most) (sym e) h.locals_end;
      stack_ends = subst (λ g. EndsBy g f.depth) (sym (same f.stack h.stack)) h.stack_ends;
      room = subst (λ m. f.depth ≤ m) (sym follows.most) h.room;
    };
    same = λ f h.
        ap (λ (l : WordStore). type_frame (first_words (word_at l f.locals) l.most) (stack_words (word_at new.stacks f.stack) f.depth) f.unset) e
        ∙ ap (λ g. type_frame (shown old f).locals (stack_words g f.depth) f.unset) (same f.stack h.stack);
  }

  pub leaves_locals : new.stacks ≡ old.stacks → Follows old.locals new.locals
      → ((words : Words) → IsList old.locals words → IsFixed new.locals words)
      → ((words : Words) → IsList old.locals words → word_at new.locals words ≡ word_at old.locals words) → LeavesFrames old new
  leaves_locals e follows fixed same = record {
    follows = record { locals = follows; stacks = subst (λ s. Follows old.stacks s) (sym e) (follows_itself old.stacks) };
    there = λ f h. record {
      locals = (fixed f.locals h.locals).0;
      stack = subst (λ s. IsList s f.stack) (sym e) h.stack;
      locals_end = subst (λ m. EndsBy (word_at new.locals f.locals) m) (sym follows.most) (subst (λ g. EndsBy g old.locals.most) (sym (same f.locals h.locals)) h.locals_end);
      stack_ends = subst (λ s. EndsBy (word_at s f.stack) f.depth) (sym e) h.stack_ends;
      room = subst (λ (s : WordStore). f.depth ≤ s.most) (sym e) h.room;
    };
    same = λ f h.
        ap (λ s. type_frame (first_words (word_at new.locals f.locals) new.locals.most) (stack_words (word_at s f.stack) f.depth) f.unset) e
        ∙ ap (λ m. type_frame (first_words (word_at new.locals f.locals) m) (shown old f).stack f.unset) follows.most
        ∙ ap (λ g. type_frame (first_words g old.locals.most) (shown old f).stack f.unset) (same f.locals h.locals);
  }

-- ---- frames that are assignable

unequal : (h : Hierarchy) (low high : List VerificationType) → length low ≢ length high → are_assignable h low high ≡ false
unequal h [] [] ne = absurd (ne refl)
unequal h [] (b ∷ high) ne = refl
unequal h (a ∷ low) [] ne = refl
unequal h (a ∷ low) (b ∷ high) ne =
    ap (λ x. is_assignable h a b && x) (unequal h low high (λ e. ne (ap suc e))) ∙ and-false (is_assignable h a b)

pub depths_apart : (env : Environment) (low high : TypeFrame) → length low.stack ≢ length high.stack → false ≡ is_frame_assignable env low high
depths_apart env low high ne =
    sym (ap (λ x. x && (are_locals_assignable env.hierarchy low.locals high.locals && (not low.flag_this_uninit || high.flag_this_uninit))) (unequal env.hierarchy low.stack high.stack ne))

pub flags_apart : (env : Environment) (low high : TypeFrame) → low.flag_this_uninit ≡ true → high.flag_this_uninit ≡ false → false ≡ is_frame_assignable env low high
flags_apart env low high l h =
    let stacks = are_assignable env.hierarchy low.stack high.stack in
    let locals = are_locals_assignable env.hierarchy low.locals high.locals in
    sym (ap (λ x. stacks && (locals && (not x || high.flag_this_uninit))) l
    ∙ ap (λ x. stacks && (locals && x)) h
    ∙ ap (λ x. stacks && x) (and-false locals) ∙ and-false stacks)

pub stacks_apart : (env : Environment) (low high : TypeFrame) → are_assignable env.hierarchy low.stack high.stack ≡ false → false ≡ is_frame_assignable env low high
stacks_apart env low high e =
    sym (ap (λ x. x && (are_locals_assignable env.hierarchy low.locals high.locals && (not low.flag_this_uninit || high.flag_this_uninit))) e)

pub locals_tell : (env : Environment) (low high : TypeFrame) → are_assignable env.hierarchy low.stack high.stack ≡ true → (not low.flag_this_uninit || high.flag_this_uninit) ≡ true
    → are_locals_assignable env.hierarchy low.locals high.locals ≡ is_frame_assignable env low high
locals_tell env low high stacks flag =
    let locals = are_locals_assignable env.hierarchy low.locals high.locals in
    sym (ap (λ x. x && (locals && (not low.flag_this_uninit || high.flag_this_uninit))) stacks ∙ ap (λ x. locals && x) flag ∙ and_true locals)
  where
    and_true : (a : Bool) → (a && true) ≡ a
    and_true true = refl
    and_true false = refl
