-- Map frames that are made.
use Rattle.std.proofs.Common.{◌≡◌, ℕ, zero, suc, ◌+◌, ◌<◌, ◌≤◌, Bool, false, ◌&&◌, ◌||◌, nat_lt, inl, inr, Option, Some, None, List, [], ◌∷◌, ◌++◌, map, take, drop, length, reverse, get_or, slice_get, append_assoc, refl, sym, ◌∙◌, ap, subst, arith}
use Rattle.std.specs.List.{list_any}
use Rattle.std.proofs.lemmas.Bool.{cases_Bool, lt-ltb}
use Rattle.std.proofs.lemmas.Bool.Decides.{eqb_tells}
use Rattle.std.proofs.lemmas.List.{length-reverse, length-append, length_push}
use Rattle.std.proofs.lemmas.Option.{same_Some, none-some}
use Rattle.code_frames.specs.declared.types.VType.{VType}
use Rattle.code_frames.specs.declared.types.MapFrame.{MapFrame}
use Rattle.code_frames.specs.Locals.{changed, entry_locals, locals_after}
use Rattle.link_types.specs.declared.operands.Operand.{Operand}
use Rattle.type_rules.specs.declared.types.VerificationType.{VerificationType}
use Rattle.type_rules.specs.declared.types.VerificationType.TheVariants.{Top, Int, Float, Long, Double, Second, Null, UninitThis, Uninit, Object}
use Rattle.type_rules.specs.Assignable.{Hierarchy}
use Rattle.type_rules.specs.Environment.{TypeFrame, in_locals, padded}
use Rattle.type_rules.specs.Environments.{words_of_values}
use Rattle.type_rules.specs.MapFrames.{item_type, item_words, is_uninit_this, frame_with_flag, frame_numbered, value_widths}
use Rattle.type_lists.specs.Shown.{first_words, stack_words, EndsBy}
use Rattle.type_lists.specs.Store.{word_at, IsList}
use Rattle.type_lists.specs.declared.store.Words.{Words}
use Rattle.typing_frames.specs.declared.stores.FrameStores.{FrameStores}
use Rattle.typing_frames.specs.declared.stores.CurrentFrame.{CurrentFrame}
use Rattle.typing_frames.specs.Frames.{shown, IsFrame, IsKeptFrame, KeepsAll, StoresFollow, StoresRemember}
use Rattle.map_frames.specs.declared.words.LocalWords.{LocalWords}
use Rattle.map_frames.specs.declared.mapped.MappedFrame.{MappedFrame}
use Rattle.map_frames.specs.Mapped.{is_word, with_locals, shown_locals, only_word, AreLocals, Maps, MapsAt, AreMapped}
use Rattle.map_frames.specs.declared.items.LocalItems.{LocalItems}
use Rattle.map_frames.specs.Making.{one_if, count_words, type_frame, AreItems, AreWords, IsStack}
use Rattle.typing_frames.proofs.FrameLaws.{stores_follow_on}
use Rattle.map_frames.proofs.ItemLaws.{depth_is}

-- ---- counts

pub some_words : (test : VerificationType → Bool) (ws : List VerificationType) → nat_lt 0 (count_words test ws) ≡ list_any test ws
some_words test [] = refl
some_words test (w ∷ ws) = elim (cases_Bool (test w)) [
  | inl here ↦
      lt-ltb 0 (count_words test (w ∷ ws)) (let e = ap (λ b. one_if b + count_words test ws) here in omega (arith, e))
      ∙ sym (ap (λ b. b || list_any test ws) here)
  | inr other ↦
      ap (λ n. nat_lt 0 n) (ap (λ b. one_if b + count_words test ws) other ∙ (let e : 0 + count_words test ws ≡ count_words test ws = omega arith in e))
      ∙ some_words test ws ∙ sym (ap (λ b. b || list_any test ws) other)
]

-- ---- frames that are kept

pub frame_follows : (old new : FrameStores) (frame : CurrentFrame) → StoresFollow old new → IsKeptFrame old frame → IsKeptFrame new frame × (shown new frame ≡ shown old frame)
frame_follows old new frame follows kept =
    let locals = follows.locals.kept frame.locals kept.locals in
    let stack = follows.stacks.kept frame.stack kept.stack in
    let same_locals = follows.locals.words frame.locals kept.locals in
    let same_stack = follows.stacks.words frame.stack kept.stack in (
      record {
        there = record {
          locals = locals.0;
          stack = stack.0;
          locals_end = subst (λ m. EndsBy (word_at new.locals frame.locals) m) (sym follows.locals.most) (subst (λ f. EndsBy f old.locals.most) (sym same_locals) kept.there.locals_end);
          stack_ends = subst (λ f. EndsBy f frame.depth) (sym same_stack) kept.there.stack_ends;
          room = subst (λ m. frame.depth ≤ m) (sym follows.stacks.most) kept.there.room;
        };
        locals = locals;
        stack = stack;
      },
      ap (λ f. type_frame (first_words f new.locals.most) (stack_words (word_at new.stacks frame.stack) frame.depth) frame.unset) same_locals
          ∙ ap (λ m. type_frame (first_words (word_at old.locals frame.locals) m) (stack_words (word_at new.stacks frame.stack) frame.depth) frame.unset) follows.locals.most
          ∙ ap (λ f. type_frame (shown old frame).locals (stack_words f frame.depth) frame.unset) same_stack,
    )

pub words_kept : (old new : FrameStores) (words : LocalWords) (ws : List VerificationType) → KeepsAll old new → AreWords old words ws → AreWords new words ws
words_kept old new words ws keeps are = record {
  there = (keeps.kept words.frame are.there).there;
  are = keeps.same words.frame are.there ∙ are.are ∙ ap (λ m. type_frame (padded m ws) [] false) (sym keeps.follows.locals.most);
  count = are.count;
  passing = are.passing ∙ ap (λ m. count_words is_word (drop m ws)) (sym keeps.follows.locals.most);
  uninits = are.uninits;
}

pub words_follow : (old new : FrameStores) (words : LocalWords) (ws : List VerificationType) → StoresFollow old new → IsKeptFrame old words.frame → AreWords old words ws → AreWords new words ws
words_follow old new words ws follows kept are =
    let frame = frame_follows old new words.frame follows kept in
    record {
      there = frame.0.there;
      are = frame.1 ∙ are.are ∙ ap (λ m. type_frame (padded m ws) [] false) (sym follows.locals.most);
      count = are.count;
      passing = are.passing ∙ ap (λ m. count_words is_word (drop m ws)) (sym follows.locals.most);
      uninits = are.uninits;
    }

-- locals that stay
pub locals_follow : (old new : FrameStores) (words : Words) → StoresFollow old new → AreLocals old words → AreLocals new words
locals_follow old new words follows are = record {
  kept = follows.locals.kept words are.kept;
  end = subst (λ m. EndsBy (word_at new.locals words) m) (sym follows.locals.most) (subst (λ f. EndsBy f old.locals.most) (sym (follows.locals.words words are.kept)) are.end);
}

pub same_locals : (old new : FrameStores) (words : Words) → StoresFollow old new → AreLocals old words → shown_locals new words ≡ shown_locals old words
same_locals old new words follows are =
    ap (λ f. first_words f new.locals.most) (follows.locals.words words are.kept) ∙ ap (first_words (word_at old.locals words)) follows.locals.most

pub maps_follow : (old new : FrameStores) (mapped : MappedFrame) (g : TypeFrame) → StoresFollow old new → Maps old mapped g → Maps new mapped g
maps_follow old new mapped g follows maps =
    let most = follows.locals.most in
    let less : length g.stack ≤ new.stacks.most → length g.stack ≤ old.stacks.most = λ h. subst (λ m. length g.stack ≤ m) follows.stacks.most h in
    record {
      locals = locals_follow old new mapped.locals follows maps.locals;
      shown_locals = same_locals old new mapped.locals follows maps.locals ∙ maps.shown_locals ∙ ap (λ m. padded m g.locals) (sym most);
      only = maps.only;
      words = maps.words;
      passes = maps.passes ∙ ap (λ m. list_any is_word (drop m g.locals)) (sym most);
      depth = maps.depth;
      kept = λ h. (frame_follows old new mapped.frame follows (maps.kept (less h))).0;
      shown = λ h. (frame_follows old new mapped.frame follows (maps.kept (less h))).1 ∙ maps.shown (less h) ∙ ap (λ m. with_locals m g) (sym most);
    }

-- ---- one frame

-- no words are on the stack of the frame of locals
pub begun : (stores : FrameStores) (words : LocalWords) (frame : CurrentFrame) (ws : List VerificationType) → AreWords stores words ws
    → frame.locals ≡ words.frame.locals → frame.stack ≡ words.frame.stack → frame.depth ≡ words.frame.depth
    → IsStack stores frame (padded stores.locals.most ws) frame.unset []
begun stores words frame ws are locals stack depth =
    let none : words.frame.depth ≡ 0 = sym (depth_is stores words.frame) ∙ ap (λ (f : TypeFrame). length f.stack) are.are in
    record {
      depth = depth ∙ none;
      there = λ _. same_frame stores words.frame frame locals stack depth are.there;
      are = λ _.
          ap (λ l. type_frame (first_words (word_at stores.locals l) stores.locals.most) (stack_words (word_at stores.stacks frame.stack) frame.depth) frame.unset) locals
          ∙ ap (λ s. type_frame (shown stores words.frame).locals (stack_words (word_at stores.stacks s) frame.depth) frame.unset) stack
          ∙ ap (λ d. type_frame (shown stores words.frame).locals (stack_words (word_at stores.stacks words.frame.stack) d) frame.unset) depth
          ∙ ap (λ (f : TypeFrame). type_frame f.locals f.stack frame.unset) are.are;
    }
  where
    same_frame : (stores : FrameStores) (a b : CurrentFrame) → b.locals ≡ a.locals → b.stack ≡ a.stack → b.depth ≡ a.depth → IsFrame stores a → IsFrame stores b
    same_frame stores a b locals stack depth there = record {
      locals = subst (λ l. IsList stores.locals l) (sym locals) there.locals;
      stack = subst (λ s. IsList stores.stacks s) (sym stack) there.stack;
      locals_end = subst (λ l. EndsBy (word_at stores.locals l) stores.locals.most) (sym locals) there.locals_end;
      stack_ends = subst (λ d. EndsBy (word_at stores.stacks b.stack) d) (sym depth) (subst (λ s. EndsBy (word_at stores.stacks s) a.depth) (sym stack) there.stack_ends);
      room = subst (λ d. d ≤ stores.stacks.most) (sym depth) there.room;
    }

pub mapped_is : (old now new : FrameStores) (words : LocalWords) (mapped : MappedFrame) (constructs : Bool) (ws ss : List VerificationType) → StoresFollow old now → KeepsAll now new
    → IsKeptFrame old words.frame → AreWords old words ws → mapped.locals ≡ words.frame.locals → mapped.only ≡ only_word (reverse ss) → IsStack now mapped.frame (padded old.locals.most ws) (constructs && nat_lt 0 words.uninits) ss
    → mapped.words ≡ words.count → mapped.passes ≡ nat_lt 0 words.passing → Maps new mapped (frame_with_flag constructs ws (reverse ss))
mapped_is old now new words mapped constructs ws ss follows keeps kept are locals only stack count passes =
    let most : new.locals.most ≡ old.locals.most = keeps.follows.locals.most ∙ follows.locals.most in
    let size : length (reverse ss) ≡ length ss = length-reverse ss in
    let less : length (reverse ss) ≤ new.stacks.most → length ss ≤ now.stacks.most = λ h. let e = keeps.follows.stacks.most in omega (arith, h, size, e) in
    let all = stores_follow_on old now new follows keeps.follows in
    let there : AreLocals old words.frame.locals = record { kept = kept.locals; end = kept.there.locals_end } in
    record {
      locals = subst (AreLocals new) (sym locals) (locals_follow old new words.frame.locals all there);
      shown_locals =
          ap (shown_locals new) locals ∙ same_locals old new words.frame.locals all there ∙ ap (λ (f : TypeFrame). f.locals) are.are
          ∙ ap (λ m. padded m ws) (sym most);
      only = only;
      words = count ∙ are.count;
      passes = passes ∙ ap (λ n. nat_lt 0 n) are.passing ∙ some_words is_word (drop old.locals.most ws) ∙ ap (λ m. list_any is_word (drop m ws)) (sym most);
      depth = stack.depth ∙ sym size;
      kept = λ h. keeps.kept mapped.frame (stack.there (less h));
      shown = λ h.
          keeps.same mapped.frame (stack.there (less h)) ∙ stack.are (less h)
          ∙ ap (λ n. type_frame (padded old.locals.most ws) (reverse ss) (constructs && nat_lt 0 n)) are.uninits
          ∙ ap (λ b. type_frame (padded old.locals.most ws) (reverse ss) (constructs && b)) (some_words is_uninit_this ws)
          ∙ ap (λ m. type_frame (padded m ws) (reverse ss) (constructs && list_any is_uninit_this ws)) (sym most);
    }

-- ---- the table

pub words_of_items : (f : VType → VerificationType) (types : List VType) → words_of_values (map f types) ≡ item_words f types
words_of_items f [] = refl
words_of_items f (t ∷ types) = ap (λ ws. in_locals (f t) ++ ws) (words_of_items f types)

first_word : (v : VerificationType) (rest : List VerificationType) → get_or (in_locals v ++ rest) 0 Top ≡ v
first_word Top rest = refl
first_word Int rest = refl
first_word Float rest = refl
first_word Long rest = refl
first_word Double rest = refl
first_word Second rest = refl
first_word Null rest = refl
first_word UninitThis rest = refl
first_word (Uninit p) rest = refl
first_word (Object t) rest = refl

get_past : (xs ys : List VerificationType) → get_or (xs ++ ys) (length xs) Top ≡ get_or ys 0 Top
get_past [] ys = refl
get_past (x ∷ xs) ys = get_past xs ys

-- the items at the entry stand for the values there
entry_from : (operand : ℕ → Operand) (before : List VerificationType) (values : List VerificationType) (n : ℕ) (entry : List VerificationType) → n ≡ length before → entry ≡ before ++ words_of_values values
    → map (item_type operand entry) (entry_locals n (value_widths values)) ≡ values
entry_from operand before [] n entry here is = refl
entry_from operand before (v ∷ values) n entry here is =
    let rest = words_of_values values in
    ap (λ x. x ∷ map (item_type operand entry) (entry_locals (n + length (in_locals v)) (value_widths values)))
    (ap (λ k. get_or entry k Top) here ∙ ap (λ ws. get_or ws (length before) Top) is ∙ get_past before (in_locals v ++ rest) ∙ first_word v rest)
    ∙ ap (λ x. v ∷ x)
    (entry_from operand (before ++ in_locals v) values (n + length (in_locals v)) entry
    (let e = length-append before (in_locals v) in omega (arith, here, e))
    (is ∙ sym (append_assoc before (in_locals v) rest)))

pub entry_items : (operand : ℕ → Operand) (values entry : List VerificationType) → entry ≡ words_of_values values
    → map (item_type operand entry) (entry_locals 0 (value_widths values)) ≡ values
entry_items operand values entry is = entry_from operand [] values 0 entry refl is

pub after_more : (locals : List VType) (frames : List MapFrame) (j : ℕ) (f : MapFrame) → slice_get frames j ≡ Some f
    → locals_after locals (take (suc j) frames) ≡ changed (locals_after locals (take j frames)) f.locals
after_more locals [] j f e = absurd (none-some f e)
after_more locals (x ∷ []) zero f e = ap (λ (g : MapFrame). changed locals g.locals) (same_Some x f e)
after_more locals (x ∷ y ∷ xs) zero f e = ap (λ (g : MapFrame). changed locals g.locals) (same_Some x f e)
after_more locals (x ∷ xs) (suc j) f e = after_more (changed locals x.locals) xs j f e

got_before : (xs : List MappedFrame) (x : MappedFrame) (k : ℕ) → k < length xs → slice_get (xs ++ x ∷ []) k ≡ slice_get xs k
got_before [] x k h = absurd (omega (arith, h))
got_before (y ∷ xs) x zero h = refl
got_before (y ∷ xs) x (suc k) h = got_before xs x k (omega (arith, h))

got_last : (xs : List MappedFrame) (x : MappedFrame) → slice_get (xs ++ x ∷ []) (length xs) ≡ Some x
got_last [] x = refl
got_last (y ∷ xs) x = got_last xs x

pub maps_at_follow : (old new : FrameStores) (o : Option MappedFrame) (g : TypeFrame) → StoresFollow old new → MapsAt old o (Some g) → MapsAt new o (Some g)
maps_at_follow old new None g follows maps = maps
maps_at_follow old new (Some m) g follows maps = maps_follow old new m g follows maps

pub record Making (old new : FrameStores) (locals : LocalItems) (made : List MappedFrame) (item : VType → VerificationType) (constructs : Bool) (values : List VerificationType) (frames : List MapFrame) (j : ℕ) : Type 0 where
  pub follows : StoresFollow old new
  pub remembered : (h : Hierarchy) → StoresRemember h old → StoresRemember h new
  pub are : AreItems new locals
  pub items : locals.items.items ≡ map item (locals_after (entry_locals 0 (value_widths values)) (take j frames))
  pub count : length made ≡ j
  pub mapped : AreMapped new made item constructs values frames j

pub making_none : (old new : FrameStores) (locals : LocalItems) (operand : ℕ → Operand) (entry : List VerificationType) (constructs : Bool) (values : List VerificationType) (frames : List MapFrame) → StoresFollow old new
    → ((h : Hierarchy) → StoresRemember h old → StoresRemember h new) → AreItems new locals → locals.items.items ≡ values → entry ≡ words_of_values values
    → Making old new locals [] (item_type operand entry) constructs values frames 0
making_none old new locals operand entry constructs values frames follows remembered are items is = record {
  follows = follows;
  remembered = remembered;
  are = are;
  items = items ∙ sym (entry_items operand values entry is) ∙ ap (λ fs. map (item_type operand entry) (locals_after (entry_locals 0 (value_widths values)) fs)) (sym (take_none frames));
  count = refl;
  mapped = λ j f h at. absurd (omega (arith, h));
}
  where
    take_none : (fs : List MapFrame) → take 0 fs ≡ []
    take_none [] = refl
    take_none (f ∷ fs) = refl

pub making_more : (old now new : FrameStores) (locals next : LocalItems) (made : List MappedFrame) (m : MappedFrame) (item : VType → VerificationType) (constructs : Bool) (values : List VerificationType) (frames : List MapFrame) (j : ℕ) (f : MapFrame)
    → slice_get frames j ≡ Some f → Making old now locals made item constructs values frames j → StoresFollow now new → ((h : Hierarchy) → StoresRemember h now → StoresRemember h new) → AreItems new next
    → ((types : List VType) → locals.items.items ≡ map item types → next.items.items ≡ map item (changed types f.locals))
    → Maps new m (frame_with_flag constructs (words_of_values next.items.items) (reverse (item_words item f.stack)))
    → Making old new next (made ++ m ∷ []) item constructs values frames (j + 1)
making_more old now new locals next made m item constructs values frames j f at before follows remembered are items maps =
    let entry = entry_locals 0 (value_widths values) in
    let more : suc j ≡ j + 1 = omega arith in
    let after : next.items.items ≡ map item (locals_after entry (take (suc j) frames)) =
    items (locals_after entry (take j frames)) before.items ∙ ap (map item) (sym (after_more entry frames j f at)) in
    let last : Maps new m (frame_numbered item constructs values frames j f) =
    subst (λ ws. Maps new m (frame_with_flag constructs ws (reverse (item_words item f.stack)))) (ap words_of_values after ∙ words_of_items item (locals_after entry (take (suc j) frames))) maps in
    record {
      follows = stores_follow_on old now new before.follows follows;
      remembered = λ h r. remembered h (before.remembered h r);
      are = are;
      items = after ∙ ap (λ k. map item (locals_after entry (take k frames))) more;
      count = length_push made m ∙ ap (λ n. n + 1) before.count;
      mapped = λ k g h there. elim (eqb_tells k j) [
        | inl here ↦
            let same : f ≡ g = same_Some f g (sym at ∙ ap (slice_get frames) (sym here.1) ∙ there) in
            subst (λ x. MapsAt new x (Some (frame_numbered item constructs values frames k g)))
            (sym (ap (slice_get (made ++ m ∷ [])) (here.1 ∙ sym before.count) ∙ got_last made m))
            (subst (λ x. Maps new m (frame_numbered item constructs values frames k x)) same
            (subst (λ x. Maps new m (frame_numbered item constructs values frames x f)) (sym here.1) last))
        | inr other ↦
            let earlier : k < j = omega (arith, h, other.1) in
            subst (λ x. MapsAt new x (Some (frame_numbered item constructs values frames k g))) (sym (got_before made m k (omega (arith, earlier, before.count))))
            (maps_at_follow now new (slice_get made k) (frame_numbered item constructs values frames k g) follows (before.mapped k g earlier there))
      ];
    }

pub slice_get_of : (xs : List MapFrame) (i : ℕ) (x : MapFrame) → i < length xs → x ≡ get_or xs i x → slice_get xs i ≡ Some x
slice_get_of [] i x h e = absurd (omega (arith, h))
slice_get_of (y ∷ xs) zero x h e = ap Some (sym e)
slice_get_of (y ∷ xs) (suc i) x h e = slice_get_of xs i x (omega (arith, h)) e
