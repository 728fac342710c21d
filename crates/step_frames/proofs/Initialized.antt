-- Objects that are initialized.
use Rattle.std.proofs.Common.{◌≡◌, Bool, true, false, ◌&&◌, cond, List, [], ◌∷◌, refl, sym, ap, ◌∙◌}
use Rattle.std.proofs.lemmas.Bool.{true≢false}
use Rattle.std.proofs.Math.Bool.{and-true}
use Rattle.type_rules.specs.declared.types.VerificationType.{VerificationType}
use Rattle.type_rules.specs.declared.types.VerificationType.TheVariants.{Top, Int, Float, Long, Double, Second, Null, UninitThis, Uninit, Object}
use Rattle.type_rules.specs.Assignable.{is_same_type}
use Rattle.type_rules.specs.Environment.{Environment, TypeFrame}
use Rattle.type_rules.specs.FrameAfter.{replaced_types, initialized, with_initialized}
use Rattle.type_rules.proofs.SameTypes.{same_type}
use Rattle.typing_frames.proofs.FrameLaws.{type_frame}

-- ---- words that stay

one_kept : (word t : VerificationType) (b : Bool) → is_same_type t word ≡ b → cond b word t ≡ t
one_kept word t true e = sym (same_type t word e)
one_kept word t false e = refl

all_kept : (word : VerificationType) (words : List VerificationType) → replaced_types word word words ≡ words
all_kept word [] = refl
all_kept word (t ∷ words) = ap (λ (w : VerificationType). w ∷ replaced_types word word words) (one_kept word t (is_same_type t word) refl) ∙ ap (λ (ws : List VerificationType). t ∷ ws) (all_kept word words)

frame_kept : (word : VerificationType) (f : TypeFrame) → type_frame (replaced_types word word f.locals) (replaced_types word word f.stack) (f.flag_this_uninit && true) ≡ f
frame_kept word f =
    ap (λ (l : List VerificationType). type_frame l (replaced_types word word f.stack) (f.flag_this_uninit && true)) (all_kept word f.locals)
    ∙ (ap (λ (s : List VerificationType). type_frame f.locals s (f.flag_this_uninit && true)) (all_kept word f.stack)
    ∙ ap (λ (b : Bool). type_frame f.locals f.stack b) (and-true f.flag_this_uninit))

pub kept_where_known : (env : Environment) (word : VerificationType) (f : TypeFrame) → is_same_type word (initialized env word) ≡ true → f ≡ with_initialized env word f
kept_where_known env UninitThis f e = absurd (true≢false (sym e))
kept_where_known env (Uninit p) f e = absurd (true≢false (sym e))
kept_where_known env Top f e = sym (frame_kept Top f)
kept_where_known env Int f e = sym (frame_kept Int f)
kept_where_known env Float f e = sym (frame_kept Float f)
kept_where_known env Long f e = sym (frame_kept Long f)
kept_where_known env Double f e = sym (frame_kept Double f)
kept_where_known env Second f e = sym (frame_kept Second f)
kept_where_known env Null f e = sym (frame_kept Null f)
kept_where_known env (Object t) f e = sym (frame_kept (Object t) f)
