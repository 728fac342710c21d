-- What comes to map frames.
use Rattle.std.proofs.Common.{◌≡◌, ◌≢◌, ℕ, zero, suc, ◌≤◌, Bool, true, false, not, ◌&&◌, ◌||◌, List, [], ◌∷◌, drop, length, refl, sym, ◌∙◌, ap, arith}
use Rattle.std.specs.List.{list_any}
use Rattle.std.proofs.Math.Bool.{and-false, and-true}
use Rattle.type_rules.specs.declared.types.VerificationType.{VerificationType}
use Rattle.type_rules.specs.declared.types.VerificationType.TheVariants.{Top, Int, Float, Long, Double, Second, Null, UninitThis, Uninit, Object}
use Rattle.type_rules.specs.Assignable.{Hierarchy, is_assignable, are_assignable, are_locals_assignable}
use Rattle.type_rules.specs.Environment.{Environment, TypeFrame, padded}
use Rattle.type_rules.specs.TypeFaults.{is_frame_assignable}
use Rattle.type_lists.specs.Store.{word_at}
use Rattle.type_lists.proofs.ListLaws.{first_count}
use Rattle.typing_frames.specs.declared.stores.FrameStores.{FrameStores}
use Rattle.typing_frames.specs.declared.stores.CurrentFrame.{CurrentFrame}
use Rattle.typing_frames.specs.Frames.{shown}
use Rattle.typing_frames.proofs.CompareLaws.{depths_apart}
use Rattle.map_frames.specs.declared.mapped.MappedFrame.{MappedFrame}
use Rattle.map_frames.specs.Mapped.{is_word, with_locals, Maps}
use Rattle.map_frames.specs.Making.{IsFrameInRoom}
use Rattle.map_frames.proofs.WordLaws.{pad, padded_is}
use Rattle.map_frames.proofs.ItemLaws.{depth_is}

and_assoc : (a b c : Bool) → (a && (b && c)) ≡ ((a && b) && c)
and_assoc true b c = refl
and_assoc false b c = refl

module _ (h : Hierarchy) where
  top_goes : (w : VerificationType) → is_assignable h Top w ≡ not (is_word w)
  top_goes Top = refl
  top_goes Int = refl
  top_goes Float = refl
  top_goes Long = refl
  top_goes Double = refl
  top_goes Second = refl
  top_goes Null = refl
  top_goes UninitThis = refl
  top_goes (Uninit p) = refl
  top_goes (Object t) = refl

  not_or : (a b : Bool) → (not a && not b) ≡ not (a || b)
  not_or true b = refl
  not_or false b = refl

  none_goes : (bs : List VerificationType) → are_locals_assignable h [] bs ≡ not (list_any is_word bs)
  none_goes [] = refl
  none_goes (b ∷ bs) = ap (λ x. x && are_locals_assignable h [] bs) (top_goes b) ∙ ap (λ x. not (is_word b) && x) (none_goes bs) ∙ not_or (is_word b) (list_any is_word bs)

  tops_take : (m : ℕ) (as' : List VerificationType) → length as' ≡ m → are_locals_assignable h as' (pad m []) ≡ true
  tops_take zero as' e = refl
  tops_take (suc m) [] e = absurd (omega (arith, e))
  tops_take (suc m) (a ∷ as') e = tops_take m as' (omega (arith, e))

  pub locals_split : (m : ℕ) (as' bs : List VerificationType) → length as' ≡ m
      → are_locals_assignable h as' bs ≡ (are_locals_assignable h as' (pad m bs) && not (list_any is_word (drop m bs)))
  locals_split zero [] bs e = none_goes bs
  locals_split zero (a ∷ as') bs e = absurd (omega (arith, e))
  locals_split (suc m) [] bs e = absurd (omega (arith, e))
  locals_split (suc m) (a ∷ as') [] e = sym (ap (λ x. x && true) (tops_take m as' (omega (arith, e))))
  locals_split (suc m) (a ∷ as') (b ∷ bs) e =
      ap (λ x. is_assignable h a b && x) (locals_split m as' bs (omega (arith, e)))
      ∙ and_assoc (is_assignable h a b) (are_locals_assignable h as' (pad m bs)) (not (list_any is_word (drop m bs)))

locals_of : (stores : FrameStores) (frame : CurrentFrame) → length (shown stores frame).locals ≡ stores.locals.most
locals_of stores frame = first_count (word_at stores.locals frame.locals) stores.locals.most

-- a map frame's own locals, as the padded ones and those that pass
split : (env : Environment) (stores : FrameStores) (frame : CurrentFrame) (mapped : MappedFrame) (g : TypeFrame) → Maps stores mapped g
    → are_locals_assignable env.hierarchy (shown stores frame).locals g.locals ≡ (are_locals_assignable env.hierarchy (shown stores frame).locals (with_locals stores.locals.most g).locals && not mapped.passes)
split env stores frame mapped g maps =
    let most = stores.locals.most in
    let f = (shown stores frame).locals in
    locals_split env.hierarchy most f g.locals (locals_of stores frame)
    ∙ ap (λ l. are_locals_assignable env.hierarchy f l && not (list_any is_word (drop most g.locals))) (sym (padded_is most g.locals))
    ∙ ap (λ b. are_locals_assignable env.hierarchy f (padded most g.locals) && not b) (sym maps.passes)

pub passing_apart : (env : Environment) (stores : FrameStores) (frame : CurrentFrame) (mapped : MappedFrame) (g : TypeFrame) → Maps stores mapped g → mapped.passes ≡ true → false ≡ is_frame_assignable env (shown stores frame) g
passing_apart env stores frame mapped g maps e =
    let f = shown stores frame in
    let stacks = are_assignable env.hierarchy f.stack g.stack in
    let flags = not f.flag_this_uninit || g.flag_this_uninit in
    let inside = are_locals_assignable env.hierarchy f.locals (with_locals stores.locals.most g).locals in
    sym (ap (λ x. stacks && (x && flags)) (split env stores frame mapped g maps ∙ ap (λ b. inside && not b) e ∙ and-false inside) ∙ and-false stacks)

pub deeper_apart : (env : Environment) (stores : FrameStores) (frame : CurrentFrame) (mapped : MappedFrame) (g : TypeFrame) → Maps stores mapped g → frame.depth ≢ mapped.frame.depth → false ≡ is_frame_assignable env (shown stores frame) g
deeper_apart env stores frame mapped g maps ne =
    depths_apart env (shown stores frame) g (λ e. ne (let d = depth_is stores frame in let m = maps.depth in omega (arith, e, d, m)))

pub inside_tells : (env : Environment) (stores : FrameStores) (frame : CurrentFrame) (mapped : MappedFrame) (g : TypeFrame) → Maps stores mapped g → mapped.passes ≡ false → length g.stack ≤ stores.stacks.most
    → is_frame_assignable env (shown stores frame) (shown stores mapped.frame) ≡ is_frame_assignable env (shown stores frame) g
inside_tells env stores frame mapped g maps e room =
    let f = shown stores frame in
    let stacks = are_assignable env.hierarchy f.stack g.stack in
    let flags = not f.flag_this_uninit || g.flag_this_uninit in
    let inside = are_locals_assignable env.hierarchy f.locals (with_locals stores.locals.most g).locals in
    ap (is_frame_assignable env f) (maps.shown room)
    ∙ sym (ap (λ x. stacks && (x && flags)) (split env stores frame mapped g maps ∙ ap (λ b. inside && not b) e ∙ and-true inside))

pub maps_in_room : (stores : FrameStores) (mapped : MappedFrame) (g : TypeFrame) → Maps stores mapped g → IsFrameInRoom stores mapped.frame
maps_in_room stores mapped g maps h = (maps.kept (let d = maps.depth in omega (arith, h, d))).there
