-- The methods of the built-in classes, one by one.
use Rattle.std.proofs.Common.{◌≡◌, ◌⊎◌, ◌^◌, ◌%◌, ◌==◌, ◌&&◌, ℕ, Bool, true, false, inl, inr, Option, None, Some, List, [], ◌∷◌, refl, sym, ap, subst, ◌∙◌, nat_le, if◌then◌else◌}
use Rattle.std.proofs.lemmas.Bool.{eqb-false, and_parts, leb-true}
use Rattle.std.specs.Int.{w32, w64, cast_signed}
use Rattle.builtin_world.specs.declared.Native.{Native}
use Rattle.builtin_world.specs.declared.Native.TheVariants.{ObjectInit, ObjectWait, ObjectNotify, ObjectNotifyAll, ObjectEquals, PrintlnEmpty, PrintlnInt, PrintlnLong, PrintlnChar, PrintlnBoolean, PrintlnString, ThreadInit, ThreadInitTarget, ThreadStart, ThreadRun, ThreadJoin, ThreadSetPriority, ThreadGetPriority, ThreadCurrentThread, ThreadYield, ThrowableInit, ThrowableInitMessage, ThrowableGetMessage, StringLength, StringCharAt, StringEquals, StringConcat, BuilderInit, BuilderInitText, AppendInt, AppendLong, AppendChar, AppendBoolean, AppendString, BuilderLength, BuilderToString}
use Rattle.builtin_world.specs.declared.number.TheConstants.{OBJECT, THREAD, RUNNABLE, STRING, STRING_BUILDER, THROWABLE, ILLEGAL_MONITOR_STATE_EXCEPTION, ILLEGAL_ARGUMENT_EXCEPTION, ILLEGAL_THREAD_STATE_EXCEPTION}
use Rattle.builtin_world.specs.declared.word.TheConstants.{STRING_UNITS, THREAD_PRIORITY, THREAD_TARGET, THROWABLE_MESSAGE}
use Rattle.builtin_world.specs.Laws.{is_throwable}
use Rattle.code_decode.specs.declared.code.ClassUnit.{ClassUnit}
use Rattle.link_types.specs.declared.types.ObjectType.TheVariants.{Class}
use Rattle.link_types.specs.declared.types.ValueType.{ValueType}
use Rattle.op_core.specs.declared.Op.TheVariants.{Start}
use Rattle.java_rows.specs.Numbers.{long_of, char_of}
use Rattle.java_rows.specs.Natives.{native, not_owner, prints, prints_string, starts, runs_target, sets_priority, on_started}
use Rattle.java_rows.specs.Plan.{finds, Use, want, writes, reads, raises, asks_class}
use Rattle.row_soundness.specs.Senses.{Sense, IsReference, reference}
use Rattle.row_soundness.specs.Fits.{Returns, ResultFits, ValuesFit, IsMade, PlanFits, anything, EndsFit, UseFits}
use Rattle.row_soundness.specs.Knowledge.{Knows}
use Rattle.row_soundness.specs.Accepted.{Accepted}
use Rattle.row_soundness.specs.Natives.{FitsNative, IsNativeOf, IsNativeConstructor, native_takes, native_gives, native_static}
use Rattle.row_soundness.proofs.CallsFit.{raises_fit}
use Rattle.row_soundness.proofs.ChosenFit.{NativesFit}
use Rattle.row_soundness.proofs.ConstructorRowFits.{NativeConstructorsFit}
use Rattle.row_soundness.proofs.StaticRowFits.{StaticNativesFit}
use Rattle.row_soundness.proofs.NativesFit.{gives_fit, refused_fit, notify_all_fits, wait_fits, println_fits, inherits_fit, flag_fits}
use Rattle.java_rows.specs.Units.{an_int, a_long, a_char, a_boolean, a_string}
use Rattle.row_soundness.proofs.TextsFit.{builder_set}
use Rattle.row_soundness.proofs.TextRowsFit.{text_length_fits, text_char_fits, text_equals_fits, text_joins_fits, copies_text_fits, appends_fit, builder_length_fits, tells_text_fits}
use Rattle.row_soundness.proofs.ReadValues.{there}
use Rattle.row_soundness.proofs.Plans.{prints_fit, notifies_fit, reads_fit, reads_array_fit, writes_fit, reads_priority_fit, writes_priority_fit, starts_fit, joins_fit, asks_class_fit}
use Rattle.link_types.specs.declared.types.ValueType.TheVariants as values
use Rattle.op_core.specs.declared.Line.TheVariants as lines

module _ {P : Type 0} (know : Sense P) (us : List ClassUnit) (knows : Knows know us) (accepted : Accepted us) (me : ℕ) where
  module _ (h : P) (res : Option Returns) (u : Use) (tells : Returns) (on : UseFits know us h res tells u) where
    module _ (plain : tells.made ≡ None) (mine : know.is_of h me (Class THREAD)) where
      gives : (t : Option ValueType) → tells.value ≡ t → (h' : P) (words : List ℕ) → know.extends h h' → ResultFits know h' t words → PlanFits know us res anything (u.value words) h'
      gives = gives_fit know us knows accepted me h res u tells on plain

      refused : (c : ℕ) → is_throwable c ≡ true → (h' : P) → know.extends h h' → PlanFits know us res anything (raises u c) h'
      refused = refused_fit know us knows accepted me h res u tells on plain

      done : tells.value ≡ None → (h' : P) → know.extends h h' → PlanFits know us res anything (u.value []) h'
      done void h' more = gives None void h' [] more tt

      string_fits : (void : tells.value ≡ None) (s : ℕ) → IsReference know h s (Class STRING) → PlanFits know us res anything (prints_string s u) h
      string_fits void s is = by_test (s == 0) refl
        where
          by_array : (h' : P) → know.extends h h' → know.is_of h' s (Class STRING) → (array : ℕ) → (array ≡ 0) ⊎ know.is_text h' array → (b : Bool) → (array == 0) ≡ b → PlanFits know us res anything (if b then asks_class s (λ c n. prints (lines.Text n) u) else prints (lines.Made array) u) h'
          by_array h' more of array fits true e =
              asks_class_fit know us knows res h' s (λ c n. prints (lines.Text n) u) (knows.looks h' s (knows.there_of h' s (Class STRING) (knows.raw_of h' s (Class STRING) of)))
              (λ h'' c n more' exactly. prints_fit know us knows res h'' (lines.Text n) (u.value []) tt (λ h''' more''. done void h''' (knows.both h h'' h''' (knows.both h h' h'' more more') more'')))
          by_array h' more of array (inl null) false e = absurd (eqb-false array 0 e null)
          by_array h' more of array (inr text) false e = prints_fit know us knows res h' (lines.Made array) (u.value []) text (λ h'' more'. done void h'' (knows.both h h' h'' more more'))

          by_test : (b : Bool) → (s == 0) ≡ b
              → PlanFits know us res anything (if b then prints lines.Null u else reads s STRING_UNITS (λ array. if array == 0 then asks_class s (λ c n. prints (lines.Text n) u) else prints (lines.Made array) u)) h
          by_test true e = println_fits know us knows accepted me h res u tells void plain on lines.Null tt
          by_test false e =
              let of : know.is_of h s (Class STRING) = there know us knows accepted me h s (Class STRING) (eqb-false s 0 e) is in
              reads_array_fit know us knows res h s (λ array. if array == 0 then asks_class s (λ c n. prints (lines.Text n) u) else prints (lines.Made array) u) of
              (λ h' array more fits. by_array h' more (knows.of_more h h' s (Class STRING) more of) array fits (array == 0) refl)

      target_fits : (void : tells.value ≡ None) (t : ℕ) → know.is_of h t (Class THREAD) → PlanFits know us res anything (runs_target t u) h
      target_fits void t of =
          reads_fit know us knows res h t THREAD_TARGET (reference (Class RUNNABLE)) (λ v. if v == 0 then u.value [] else u.again (finds v)) (knows.target h t (knows.raw_of h t (Class THREAD) of)) (λ h' v more fits. by_test h' v more fits (v == 0) refl)
        where
          by_test : (h' : P) (v : ℕ) → know.extends h h' → IsReference know h' v (Class RUNNABLE) → (b : Bool) → (v == 0) ≡ b → PlanFits know us res anything (if b then u.value [] else u.again (finds v)) h'
          by_test h' v more fits true e = done void h' more
          by_test h' v more fits false e = on.again h' (finds v) more void plain (there know us knows accepted me h' v (Class RUNNABLE) (eqb-false v 0 e) fits)

      priority_fits : (void : tells.value ≡ None) (t p : ℕ) → know.is_of h t (Class THREAD) → PlanFits know us res anything (sets_priority t p u) h
      priority_fits void t p of = by_test (nat_le 1 p && nat_le p 10) refl
        where
          by_test : (b : Bool) → (nat_le 1 p && nat_le p 10) ≡ b → PlanFits know us res anything (if b then writes t THREAD_PRIORITY p (u.value []) else raises u ILLEGAL_ARGUMENT_EXCEPTION) h
          by_test true e =
              let within = and_parts (nat_le 1 p) (nat_le p 10) e in
              writes_priority_fit know us knows res h t p (u.value []) (knows.raw_of h t (Class THREAD) of) (knows.priorities p (leb-true 1 p within.0) (leb-true p 10 within.1)) (λ h' more set. done void h' more)
          by_test false e = refused ILLEGAL_ARGUMENT_EXCEPTION refl h (knows.itself h)

      starts_it : (void : tells.value ≡ None) (t : ℕ) → know.is_of h t (Class THREAD) → PlanFits know us res anything (starts t u) h
      starts_it void t of =
          reads_priority_fit know us knows res h t (λ p. want (Start t (p % 2 ^ 8)) (on_started (u.value []) (raises u ILLEGAL_THREAD_STATE_EXCEPTION))) of
          (λ h' p more may. starts_fit know us knows res h' t (p % 2 ^ 8) (u.value []) (raises u ILLEGAL_THREAD_STATE_EXCEPTION) (knows.starts h' t p (knows.of_more h h' t (Class THREAD) more of) may)
          (λ h'' more'. done void h'' (knows.both h h' h'' more more')) (λ h'' more'. refused ILLEGAL_THREAD_STATE_EXCEPTION refl h'' (knows.both h h' h'' more more')))

      is_thread : (c r : ℕ) → c ≡ THREAD → know.is_of h r (Class c) → know.is_of h r (Class THREAD)
      is_thread c r e of = subst (λ d. know.is_of h r (Class d)) e of

      is_class : (c r d : ℕ) → c ≡ d → know.is_of h r (Class c) → know.is_of h r (Class d)
      is_class c r d e of = subst (λ x. know.is_of h r (Class x)) e of

      is_there : (c r : ℕ) → know.is_of h r (Class c) → know.is_there h r
      is_there c r of = knows.there_of h r (Class c) (knows.raw_of h r (Class c) of)

      by_native : (n : Native) (c r : ℕ) (args : List ℕ) → native_static n ≡ false → IsNativeOf us n c → know.is_of h r (Class c) → ValuesFit know h (native_takes n) args → tells.value ≡ native_gives n → PlanFits know us res anything (native us me n (r ∷ args) u) h
      by_native ObjectInit c r [] f is of fits void = (tt, done void h (knows.itself h))
      by_native ObjectWait c r [] f is of fits void = wait_fits know us knows accepted me h res u tells void plain on r (is_there c r of)
      by_native ObjectNotify c r [] f is of fits void =
          notifies_fit know us knows res h r (u.value []) (u.value []) (not_owner u) (is_there c r of) (done void) (done void) (refused ILLEGAL_MONITOR_STATE_EXCEPTION refl)
      by_native ObjectNotifyAll c r [] f is of fits void = notify_all_fits know us knows accepted me h res u tells void plain on r (is_there c r of)
      by_native ObjectEquals c r (other ∷ []) f is of fits same = (tt, gives (Some values.Boolean) same h ((if r == other then 1 else 0) ∷ []) (knows.itself h) (λ exact. flag_fits (r == other)))
      by_native PrintlnEmpty c r [] f is of fits void = println_fits know us knows accepted me h res u tells void plain on lines.Empty tt
      by_native PrintlnInt c r (n ∷ []) f is of fits void = println_fits know us knows accepted me h res u tells void plain on (lines.Int (cast_signed w32 n)) tt
      by_native PrintlnLong c r (low ∷ high ∷ []) f is of fits void = println_fits know us knows accepted me h res u tells void plain on (lines.Long (cast_signed w64 (long_of low high))) tt
      by_native PrintlnChar c r (x ∷ []) f is of fits void = println_fits know us knows accepted me h res u tells void plain on (lines.Char (char_of x)) tt
      by_native PrintlnBoolean c r (b ∷ []) f is of fits void = println_fits know us knows accepted me h res u tells void plain on (lines.Bool (b % 2 == 1)) tt
      by_native PrintlnString c r (s ∷ []) f is of fits void = string_fits void s fits.0
      by_native ThreadInit c r [] f is of fits void =
          inherits_fit know us knows accepted me h res r (u.value []) mine (knows.raw_of h r (Class THREAD) (is_thread c r is of)) (λ h' more set. done void h' more)
      by_native ThreadInitTarget c r (target ∷ []) f is of fits void =
          inherits_fit know us knows accepted me h res r (writes r THREAD_TARGET target (u.value [])) mine (knows.raw_of h r (Class THREAD) (is_thread c r is of))
          (λ h' more set. writes_fit know us knows res h' r THREAD_TARGET target (reference (Class RUNNABLE)) (u.value []) (knows.target h' r (knows.raw_of h' r (Class THREAD) set))
          (Rattle.row_soundness.proofs.Basics.reference_more know us knows h h' target (Class RUNNABLE) more fits.0) (λ h'' more'. done void h'' (knows.both h h' h'' more more')))
      by_native ThreadStart c r [] f is of fits void = starts_it void r (is_thread c r is of)
      by_native ThreadRun c r [] f is of fits void = target_fits void r (is_thread c r is of)
      by_native ThreadJoin c r [] f is of fits void = joins_fit know us knows res h r (u.value []) (knows.joins h r (is_thread c r is of)) (done void)
      by_native ThreadSetPriority c r (p ∷ []) f is of fits void = priority_fits void r p (is_thread c r is of)
      by_native ThreadGetPriority c r [] f is of fits same =
          reads_priority_fit know us knows res h r (λ p. u.value (p ∷ [])) (is_thread c r is of) (λ h' p more may. gives (Some values.Int) same h' (p ∷ []) more (knows.priority_words p may))
      by_native ThrowableInit c r [] f is of fits void = (tt, done void h (knows.itself h))
      by_native ThrowableInitMessage c r (message ∷ []) f is of fits void =
          writes_fit know us knows res h r THROWABLE_MESSAGE message (reference (Class STRING)) (u.value []) (knows.message h r (knows.raw_of h r (Class THROWABLE) (knows.up h r (Class c) (Class THROWABLE) of is.1))) fits.0 (done void)
      by_native ThrowableGetMessage c r [] f is of fits same =
          reads_fit know us knows res h r THROWABLE_MESSAGE (reference (Class STRING)) (λ message. u.value (message ∷ [])) (knows.message h r (knows.raw_of h r (Class THROWABLE) (knows.up h r (Class c) (Class THROWABLE) of is.1)))
          (λ h' message more is. gives (Some (values.Object (Class STRING))) same h' (message ∷ []) more is)
      by_native StringLength c r [] f is of fits same = text_length_fits know us knows accepted me h res u tells on plain same r (is_class c r STRING is of)
      by_native StringCharAt c r (i ∷ []) f is of fits same = text_char_fits know us knows accepted me h res u tells on plain same r i (is_class c r STRING is of)
      by_native StringEquals c r (other ∷ []) f is of fits same = text_equals_fits know us knows accepted me h res u tells on plain same r other (is_class c r STRING is of) fits.0
      by_native StringConcat c r (other ∷ []) f is of fits same = text_joins_fits know us knows accepted me h res u tells on plain same r other (is_class c r STRING is of) fits.0
      by_native BuilderInit c r [] f is of fits void = (tt, done void h (knows.itself h))
      by_native BuilderInitText c r (s ∷ []) f is of fits void =
          copies_text_fits know us knows accepted me res h r s u (knows.raw_of h r (Class STRING_BUILDER) (is_class c r STRING_BUILDER is of)) fits.0 refused (done void)
      by_native AppendInt c r (n ∷ []) f is of fits same = appends_fit know us knows accepted me h res u tells on plain same r (an_int n) (is_class c r STRING_BUILDER is of) tt
      by_native AppendLong c r (low ∷ high ∷ []) f is of fits same = appends_fit know us knows accepted me h res u tells on plain same r (a_long low high) (is_class c r STRING_BUILDER is of) tt
      by_native AppendChar c r (x ∷ []) f is of fits same = appends_fit know us knows accepted me h res u tells on plain same r (a_char x) (is_class c r STRING_BUILDER is of) tt
      by_native AppendBoolean c r (x ∷ []) f is of fits same = appends_fit know us knows accepted me h res u tells on plain same r (a_boolean x) (is_class c r STRING_BUILDER is of) tt
      by_native AppendString c r (s ∷ []) f is of fits same = appends_fit know us knows accepted me h res u tells on plain same r (a_string s) (is_class c r STRING_BUILDER is of) fits.0
      by_native BuilderLength c r [] f is of fits same = builder_length_fits know us knows accepted me h res u tells on plain same r (is_class c r STRING_BUILDER is of)
      by_native BuilderToString c r [] f is of fits same = tells_text_fits know us knows accepted me h res u tells on plain same r (is_class c r STRING_BUILDER is of)
      by_native ThreadCurrentThread c r args f is of fits same = cc
      by_native ThreadYield c r args f is of fits same = cc
      by_native ObjectEquals c r (v ∷ w ∷ args) f is of fits same = absurd fits.1
      by_native PrintlnInt c r (v ∷ w ∷ args) f is of fits same = absurd fits.1
      by_native PrintlnChar c r (v ∷ w ∷ args) f is of fits same = absurd fits.1
      by_native PrintlnBoolean c r (v ∷ w ∷ args) f is of fits same = absurd fits.1
      by_native PrintlnString c r (v ∷ w ∷ args) f is of fits same = absurd fits.1
      by_native ThreadInitTarget c r (v ∷ w ∷ args) f is of fits same = absurd fits.1
      by_native ThreadSetPriority c r (v ∷ w ∷ args) f is of fits same = absurd fits.1
      by_native ThrowableInitMessage c r (v ∷ w ∷ args) f is of fits same = absurd fits.1
      by_native StringCharAt c r (v ∷ w ∷ args) f is of fits same = absurd fits.1
      by_native StringEquals c r (v ∷ w ∷ args) f is of fits same = absurd fits.1
      by_native StringConcat c r (v ∷ w ∷ args) f is of fits same = absurd fits.1
      by_native BuilderInitText c r (v ∷ w ∷ args) f is of fits same = absurd fits.1
      by_native AppendInt c r (v ∷ w ∷ args) f is of fits same = absurd fits.1
      by_native AppendChar c r (v ∷ w ∷ args) f is of fits same = absurd fits.1
      by_native AppendBoolean c r (v ∷ w ∷ args) f is of fits same = absurd fits.1
      by_native AppendString c r (v ∷ w ∷ args) f is of fits same = absurd fits.1
      by_native AppendLong c r (low ∷ high ∷ v ∷ args) f is of fits same = absurd fits.2
      by_native PrintlnLong c r (low ∷ high ∷ v ∷ args) f is of fits same = absurd fits.2
      by_native Rattle.builtin_world.specs.declared.Native.TheVariants.RunnableRun c r args f is of fits same = absurd is
      by_native n c r args f is of fits same = absurd fits

  pub natives_fit : NativesFit know us knows accepted me
  natives_fit h res id n r args u tells is mine of fits instance same plain on =
      let facts : FitsNative us n id = accepted.natives id n is in
      by_native h res u tells on plain mine n id.class r args (sym facts.static ∙ instance) facts.of of (subst (λ ts. ValuesFit know h ts args) facts.takes fits) (same ∙ facts.gives)

  -- ---- static methods

  static_native : (h : P) (res : Option Returns) (n : Native) (args : List ℕ) (u : Use) (tells : Returns) → native_static n ≡ true → know.is_of h me (Class THREAD) → ValuesFit know h (native_takes n) args → tells.value ≡ native_gives n → tells.made ≡ None
      → EndsFit know us h res tells u → PlanFits know us res anything (native us me n args u) h
  static_native h res ThreadCurrentThread [] u tells f mine fits same plain on =
      (tt, on.value h (me ∷ []) (knows.itself h) (subst (λ (x : Option ValueType). ResultFits know h x (me ∷ [])) (sym same) (inr mine)) (subst (λ (m : Option (ℕ × ℕ)). IsMade know h m) (sym plain) tt))
  static_native h res ThreadYield [] u tells f mine fits same plain on =
      (tt, on.value h [] (knows.itself h) (subst (λ (x : Option ValueType). ResultFits know h x []) (sym same) tt) (subst (λ (m : Option (ℕ × ℕ)). IsMade know h m) (sym plain) tt))
  static_native h res ThreadCurrentThread (v ∷ args) u tells f mine fits same plain on = absurd fits
  static_native h res ThreadYield (v ∷ args) u tells f mine fits same plain on = absurd fits
  static_native h res n args u tells f mine fits same plain on = cc

  pub static_natives_fit : StaticNativesFit know us knows accepted me
  static_natives_fit h res id n args u tells is static mine fits same plain on =
      let facts : FitsNative us n id = accepted.natives id n is in
      static_native h res n args u tells (sym facts.static ∙ static) mine (subst (λ ts. ValuesFit know h ts args) facts.takes fits) (same ∙ facts.gives) plain on

  -- ---- constructors

  by_constructor : (h : P) (res : Option Returns) (n : Native) (c r : ℕ) (args : List ℕ) (u : Use) (tells : Returns) → IsNativeConstructor n → IsNativeOf us n c → know.is_of h me (Class THREAD) → know.is_raw h r (Class c) → ValuesFit know h (native_takes n) args
      → tells.value ≡ None → tells.made ≡ Some (r, c) → EndsFit know us h res tells u → PlanFits know us res anything (native us me n (r ∷ args) u) h
  by_constructor h res n c r args u tells builds is mine raw fits void made on = by_case n args builds is fits
    where
      ends : (h' : P) → know.extends h h' → know.is_of h' r (Class c) → PlanFits know us res anything (u.value []) h'
      ends h' more of = on.value h' [] more (subst (λ (x : Option ValueType). ResultFits know h' x []) (sym void) tt) (subst (λ (m : Option (ℕ × ℕ)). IsMade know h' m) (sym made) of)

      raw_at : (h' : P) (d : ℕ) → know.extends h h' → c ≡ d → know.is_raw h' r (Class d)
      raw_at h' d more e = subst (λ x. know.is_raw h' r (Class x)) e (knows.raw_more h h' r (Class c) more raw)

      of_thread : (h' : P) → c ≡ THREAD → know.is_of h' r (Class THREAD) → know.is_of h' r (Class c)
      of_thread h' e set = subst (λ x. know.is_of h' r (Class x)) (sym e) set

      of_builder : (h' : P) → know.extends h h' → c ≡ STRING_BUILDER → know.is_of h' r (Class c)
      of_builder h' more e = subst (λ x. know.is_of h' r (Class x)) (sym e) (builder_set know us knows accepted me h' r (raw_at h' STRING_BUILDER more e))

      by_case : (n : Native) (args : List ℕ) → IsNativeConstructor n → IsNativeOf us n c → ValuesFit know h (native_takes n) args → PlanFits know us res anything (native us me n (r ∷ args) u) h
      by_case ObjectInit [] builds is fits = (tt, ends h (knows.itself h) (subst (λ x. know.is_of h r (Class x)) (sym is) (knows.made_object h r OBJECT (inl refl) (raw_at h OBJECT (knows.itself h) is))))
      by_case ThreadInit [] builds is fits = inherits_fit know us knows accepted me h res r (u.value []) mine (raw_at h THREAD (knows.itself h) is) (λ h' more set. ends h' more (of_thread h' is set))
      by_case ThreadInitTarget (target ∷ []) builds is fits =
          inherits_fit know us knows accepted me h res r (writes r THREAD_TARGET target (u.value [])) mine (raw_at h THREAD (knows.itself h) is)
          (λ h' more set. writes_fit know us knows res h' r THREAD_TARGET target (reference (Class RUNNABLE)) (u.value []) (knows.target h' r (raw_at h' THREAD more is))
          (Rattle.row_soundness.proofs.Basics.reference_more know us knows h h' target (Class RUNNABLE) more fits.0) (λ h'' more'. ends h'' (knows.both h h' h'' more more') (of_thread h'' is (knows.of_more h' h'' r (Class THREAD) more' set))))
      by_case ThrowableInit [] builds is fits = (tt, ends h (knows.itself h) (knows.made_throwable h r c is.0 raw))
      by_case ThrowableInitMessage (message ∷ []) builds is fits =
          writes_fit know us knows res h r THROWABLE_MESSAGE message (reference (Class STRING)) (u.value [])
          (knows.message h r (knows.raw_of h r (Class THROWABLE) (knows.up h r (Class c) (Class THROWABLE) (knows.made_throwable h r c is.0 raw) is.1))) fits.0
          (λ h' more. ends h' more (knows.of_more h h' r (Class c) more (knows.made_throwable h r c is.0 raw)))
      by_case BuilderInit [] builds is fits = (tt, ends h (knows.itself h) (of_builder h (knows.itself h) is))
      by_case BuilderInitText (s ∷ []) builds is fits =
          copies_text_fits know us knows accepted me res h r s u (raw_at h STRING_BUILDER (knows.itself h) is) fits.0
          (λ d is h' more. raises_fit know us knows accepted me h' res u d is (λ h'' q e more'. on.thrown h'' q e (knows.both h h' h'' more more'))) (λ h' more. ends h' more (of_builder h' more is))
      by_case BuilderInit (v ∷ args) builds is fits = absurd fits
      by_case BuilderInitText (v ∷ w ∷ args) builds is fits = absurd fits.1
      by_case BuilderInitText [] builds is fits = absurd fits
      by_case ObjectInit (v ∷ args) builds is fits = absurd fits
      by_case ThreadInit (v ∷ args) builds is fits = absurd fits
      by_case ThrowableInit (v ∷ args) builds is fits = absurd fits
      by_case ThreadInitTarget (v ∷ w ∷ args) builds is fits = absurd fits.1
      by_case ThreadInitTarget [] builds is fits = absurd fits
      by_case ThrowableInitMessage (v ∷ w ∷ args) builds is fits = absurd fits.1
      by_case ThrowableInitMessage [] builds is fits = absurd fits
      by_case n args builds is fits = absurd builds

  pub native_constructors_fit : NativeConstructorsFit know us knows accepted me
  native_constructors_fit h res id n r args u tells is mine raw fits same builds on =
      let facts : FitsNative us n id = accepted.natives id n is in
      by_constructor h res n id.class r args u tells builds facts.of mine raw (subst (λ ts. ValuesFit know h ts args) facts.takes fits) (ap (λ (x : Returns). x.value) same ∙ facts.gives ∙ void n builds) (ap (λ (x : Returns). x.made) same) on.ends
    where
      void : (n : Native) → IsNativeConstructor n → native_gives n ≡ None
      void ObjectInit builds = refl
      void ThreadInit builds = refl
      void ThreadInitTarget builds = refl
      void ThrowableInit builds = refl
      void ThrowableInitMessage builds = refl
      void BuilderInit builds = refl
      void BuilderInitText builds = refl
      void n builds = absurd builds
