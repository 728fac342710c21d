-- What is known of handlers.
use Rattle.std.proofs.Common.{◌≡◌, ℕ, zero, suc, ◌+◌, ◌<◌, ◌≤◌, ◌⊎◌, inl, inr, Bool, true, false, nat_le, nat_lt, cond, Some, None, Result, Ok, Err, IfOk, List, [], ◌∷◌, ◌++◌, length, get_or, take, refl, sym, ◌∙◌, ap, subst, arith}
use Rattle.std.specs.List.{All, Contains, filter, slice_get}
use Rattle.std.specs.List.Sorted.{IsNonDecreasingBy}
use Rattle.std.proofs.lemmas.Bool.{true≢false, cases_Bool, and_parts}
use Rattle.std.proofs.lemmas.Bool.Decides.{leb_tells, eqb_tells}
use Rattle.std.proofs.lemmas.List.{get_or_append_left, get_or_default, get_or-take, length-take, length_push}
use Rattle.std.proofs.lemmas.List.Elements.{All-weaker, All-push, All-filter, All-contains, Contains-push, Contains-append_left}
use Rattle.std.proofs.lemmas.Option.{get_or_from_slice_get, slice_get_within}
use Rattle.type_rules.specs.declared.types.VerificationType.{VerificationType}
use Rattle.type_rules.specs.declared.types.VerificationType.TheVariants.{Top}
use Rattle.type_rules.specs.Assignable.{Hierarchy, is_assignable, is_same_type, are_locals_assignable}
use Rattle.type_rules.specs.Environment.{Environment, TypedHandler}
use Rattle.type_rules.specs.TypeFaults.{is_covered, handler_fault, handlers_fault}
use Rattle.type_lists.specs.declared.store.Words.{Words}
use Rattle.type_lists.specs.Store.{word_at, IsKept}
use Rattle.type_lists.specs.Differ.{DifferAt}
use Rattle.type_lists.specs.Shown.{first_words, EndsBy}
use Rattle.type_lists.proofs.ListLaws.{first_count}
use Rattle.type_lists.proofs.StoreLaws.{kept_are_fixed}
use Rattle.type_lists.proofs.ShownLaws.{locals_told}
use Rattle.typing_frames.specs.declared.stores.FrameStores.{FrameStores}
use Rattle.typing_frames.specs.declared.stores.CurrentFrame.{CurrentFrame}
use Rattle.typing_frames.specs.Frames.{shown, StoresFollow}
use Rattle.typing_frames.proofs.FrameLaws.{most_fits}
use Rattle.map_frames.specs.Mapped.{shown_locals, AreLocals}
use Rattle.map_frames.proofs.MadeLaws.{locals_follow, same_locals}
use Rattle.handler_frames.specs.declared.span.Span.{Span}
use Rattle.handler_frames.specs.declared.covering.CoveringHandlers.{CoveringHandlers}
use Rattle.handler_frames.specs.Spans.{AreListed, AreWithin, FindsSpans, StandsFor}
use Rattle.handler_frames.specs.Known.{AreFixedLocals, AreHeld, BeginBehind, FitsStores, GoesAt, GoesOn, GoTo, GoToFirst, HasBegun, HasSameSpans, IsSeen, KnowsHandlers, TakesFrame}
use Rattle.handler_frames.proofs.RuleLaws.{none_broken}
use Rattle.handler_frames.proofs.SpanLaws.{stands_follow, stands_within}

-- ---- as the stores change

lists_follow : (old new : FrameStores) (spans : List Span) → StoresFollow old new → AreListed old spans → AreListed new spans
lists_follow old new spans follows are =
    All-weaker (λ (s : Span). AreLocals old s.locals) (λ (s : Span). AreLocals new s.locals) (λ s a. locals_follow old new s.locals follows a) spans are

held_follow : (h : Hierarchy) (old new : FrameStores) (active : List Span) (locals : Words) (held : ℕ) → StoresFollow old new → new.locals.given_back ≡ old.locals.given_back → AreListed old active
    → AreHeld h old active locals held → AreHeld h new active locals held
held_follow h old new active locals held follows same listed are =
    let stays = follows.locals.fixed same locals are.there.fixed in
    let shown : shown_locals new locals ≡ shown_locals old locals = ap (λ f. first_words f new.locals.most) stays.1 ∙ ap (first_words (word_at old.locals locals)) follows.locals.most in
    record {
      there = record {
        fixed = stays.0;
        end = subst (λ m. EndsBy (word_at new.locals locals) m) (sym follows.locals.most) (subst (λ f. EndsBy f old.locals.most) (sym stays.1) are.there.end);
      };
      inside = are.inside;
      go = λ j d below.
          let high = (get_or active j d).locals in
          ap (λ l. are_locals_assignable h l (shown_locals new high)) shown
          ∙ ap (λ l. are_locals_assignable h (shown_locals old locals) l) (same_locals old new high follows (listed j d (omega (arith, below, are.inside)))) ∙ are.go j d below;
    }

pub fits_follow : (h : Hierarchy) (old new : FrameStores) (known : CoveringHandlers) → StoresFollow old new → FitsStores h old known → FitsStores h new known
fits_follow h old new known follows fits = record {
  sorted = fits.sorted;
  listed = lists_follow old new known.spans.items follows fits.listed;
  active_listed = lists_follow old new known.active.items follows fits.active_listed;
  since = omega (arith, fits.since, follows.locals.later);
  holds = λ still.
      let same : new.locals.given_back ≡ old.locals.given_back = omega (arith, still, fits.since, follows.locals.later) in
      held_follow h old new known.active.items known.locals known.held follows same fits.active_listed (fits.holds (sym same ∙ still));
}

pub knows_follow : (old new : FrameStores) (known : CoveringHandlers) (env : Environment) (step : ℕ) → StoresFollow old new → KnowsHandlers old known env step → KnowsHandlers new known env step
knows_follow old new known env step follows knows h c = elim (knows h c) [
  | inl past ↦ inl past
  | inr seen ↦ inr (seen.0, stands_follow old new env h seen.0 follows seen.1, seen.2)
]

-- ---- before the first instruction

pub known_first : (env : Environment) (stores : FrameStores) (limit : ℕ) (spans joined active : List Span) → FindsSpans env stores env.handlers limit spans → AreWithin spans joined
    → (h : TypedHandler) → Contains env.handlers h → (limit ≤ h.first) ⊎ ((s : Span) × StandsFor env stores h s × IsSeen joined 0 active 0 s)
known_first env stores limit spans joined active finds within h c = elim (finds h c) [
  | inl past ↦ inl past
  | inr found ↦
      let wider = within found.0 found.1 in
      let there = wider.1 in
      inr (wider.0, stands_within env stores h found.0 wider.0 wider.2 found.2, inl (there.0, omega arith, there.1, there.2))
]

pub fits_first : (h : Hierarchy) (stores : FrameStores) (known : CoveringHandlers) → IsNonDecreasingBy (λ (s : Span). s.first) known.spans.items → AreListed stores known.spans.items → known.active.items ≡ []
    → IsKept stores.locals known.locals → word_at stores.locals known.locals ≡ (λ _. Top) → known.since ≡ stores.locals.given_back → known.held ≡ 0 → FitsStores h stores known
fits_first h stores known sorted listed none kept tops since held = record {
  sorted = sorted;
  listed = listed;
  active_listed = λ k d inside. absurd (let e = ap length none in omega (arith, e, inside));
  since = omega (arith, since);
  holds = λ still. record {
    there = record { fixed = kept_are_fixed stores.locals known.locals kept; end = λ n past. ap (λ f. f n) tops };
    inside = omega (arith, held);
    go = λ j d below. absurd (omega (arith, below, held));
  };
}

-- ---- from one instruction to the next

seen_later : (spans : List Span) (begun : ℕ) (active : List Span) (step later : ℕ) (s : Span) → step ≤ later → IsSeen spans begun active step s → IsSeen spans begun active later s
seen_later spans begun active step later s more (inl from) = inl from
seen_later spans begun active step later s more (inr (inl there)) = inr (inl there)
seen_later spans begun active step later s more (inr (inr ended)) = inr (inr (omega (arith, more, ended)))

pub knows_later : (stores : FrameStores) (known : CoveringHandlers) (env : Environment) (step later : ℕ) → step ≤ later → KnowsHandlers stores known env step → KnowsHandlers stores known env later
knows_later stores known env step later more knows h c = elim (knows h c) [
  | inl past ↦ inl past
  | inr seen ↦ inr (seen.0, seen.1, seen_later known.spans.items known.begun known.active.items step later seen.0 more seen.2)
]

-- what is seen stays seen
pub knows_seen : (stores : FrameStores) (old new : CoveringHandlers) (env : Environment) (step : ℕ) → new.limit ≡ old.limit
    → ((s : Span) → IsSeen old.spans.items old.begun old.active.items step s → IsSeen new.spans.items new.begun new.active.items step s)
    → KnowsHandlers stores old env step → KnowsHandlers stores new env step
knows_seen stores old new env step limit keeps knows h c = elim (knows h c) [
  | inl past ↦ inl (subst (λ n. n ≤ h.first) (sym limit) past)
  | inr seen ↦ inr (seen.0, seen.1, keeps seen.0 seen.2)
]

pub knows_same : (stores : FrameStores) (old new : CoveringHandlers) (env : Environment) (step : ℕ) → HasSameSpans old new → KnowsHandlers stores old env step → KnowsHandlers stores new env step
knows_same stores old new env step same =
    knows_seen stores old new env step same.limit
    (λ s seen. subst (λ l. IsSeen l new.begun new.active.items step s) (sym same.spans)
    (subst (λ n. IsSeen old.spans.items n new.active.items step s) (sym same.begun)
    (subst (λ l. IsSeen old.spans.items old.begun l step s) (sym same.active) seen)))

pub begun_same : (old new : CoveringHandlers) (step : ℕ) → HasSameSpans old new → HasBegun old step → HasBegun new step
begun_same old new step same behind =
    subst (λ l. BeginBehind l new.begun step) (sym same.spans) (subst (λ n. BeginBehind old.spans.items n step) (sym same.begun) behind)

pub same_itself : (known : CoveringHandlers) → HasSameSpans known known
same_itself known = record { spans = refl; begun = refl; active = refl; limit = refl }

pub same_on : (a b c : CoveringHandlers) → HasSameSpans a b → HasSameSpans b c → HasSameSpans a c
same_on a b c first later = record {
  spans = later.spans ∙ first.spans;
  begun = later.begun ∙ first.begun;
  active = later.active ∙ first.active;
  limit = later.limit ∙ first.limit;
}

pub goes_itself : (known : CoveringHandlers) (step : ℕ) → GoesOn known known step
goes_itself known step = record { fits = λ h stores fits. fits; knows = λ env stores knows. knows; begun = λ begun. begun; limit = refl }

pub goes_further : (a b c : CoveringHandlers) (step : ℕ) → GoesOn a b step → GoesOn b c step → GoesOn a c step
goes_further a b c step first later = record {
  fits = λ h stores fits. later.fits h stores (first.fits h stores fits);
  knows = λ env stores knows. later.knows env stores (first.knows env stores knows);
  begun = λ begun. later.begun (first.begun begun);
  limit = later.limit ∙ first.limit;
}

-- ---- other locals are held

-- the word that a span takes, as the loop reads it
pub span_takes : (h : Hierarchy) (stores : FrameStores) (spans : List Span) (at j : ℕ) (word low : VerificationType) (d e : Span) → low ≡ word_at stores.locals (get_or spans j e).locals at → is_assignable h word low ≡ true
    → j < length spans → is_assignable h word (word_at stores.locals (get_or spans j d).locals at) ≡ true
span_takes h stores spans at j word low d e low_is takes inside =
    subst (λ (s : Span). is_assignable h word (word_at stores.locals s.locals at) ≡ true) (get_or_default spans j e d inside)
    (subst (λ w. is_assignable h word w ≡ true) low_is takes)

pub first_take : (h : Hierarchy) (stores : FrameStores) (active slice : List Span) (held at count : ℕ) (locals : Words) (word : VerificationType) → slice ≡ active → word ≡ word_at stores.locals locals at → held ≤ length active
    → length (take held slice) ≤ count → ((d : Span) (j : ℕ) → j < count → is_assignable h word (word_at stores.locals (get_or (take held slice) j d).locals at) ≡ true)
    → (j : ℕ) (d : Span) → j < held → is_assignable h (word_at stores.locals locals at) (word_at stores.locals (get_or active j d).locals at) ≡ true
first_take h stores active slice held at count locals word same word_is inside all so_far j d below =
    subst (λ w. is_assignable h w (word_at stores.locals (get_or active j d).locals at) ≡ true) word_is
    (subst (λ (l : List Span). is_assignable h word (word_at stores.locals (get_or l j d).locals at) ≡ true) same
    (subst (λ (s : Span). is_assignable h word (word_at stores.locals s.locals at) ≡ true) (get_or-take held slice j d below)
    (so_far d j (let e = ap length same in omega (arith, below, all, inside, e, length-take held slice)))))

pub few_locals : (stores : FrameStores) → stores.locals.most ≤ 262144
few_locals stores = most_fits stores.locals

-- each word is assignable where the lists are
each_word : (h : Hierarchy) (low high : ℕ → VerificationType) (most : ℕ) → EndsBy low most → EndsBy high most → are_locals_assignable h (first_words low most) (first_words high most) ≡ true
    → (n : ℕ) → is_assignable h (low n) (high n) ≡ true
each_word h low high most low_ends high_ends go n = elim (cases_Bool (is_assignable h (low n) (high n))) [
  | inl holds ↦ holds
  | inr fails ↦ absurd (true≢false (sym go ∙ sym (locals_told h low high most most false low_ends high_ends (n, fails))))
]

module _ (h : Hierarchy) (stores : FrameStores) (known : CoveringHandlers) (locals : Words) (fits : FitsStores h stores known) (held : AreHeld h stores known.active.items known.locals known.held) where
  same_goes : (n : ℕ) → word_at stores.locals known.locals n ≡ word_at stores.locals locals n → GoesAt h stores known locals n
  same_goes n same j d below =
      let list = fits.active_listed j d (omega (arith, below, held.inside)) in
      let high = word_at stores.locals (get_or known.active.items j d).locals in
      ap (λ w. is_assignable h w (high n)) (sym same)
      ∙ each_word h (word_at stores.locals known.locals) high stores.locals.most held.there.end list.end (held.go j d below) n

  -- at a place more where they differ
  pub goes_past : (from at : ℕ) → DifferAt (word_at stores.locals known.locals) (word_at stores.locals locals) from at → GoesAt h stores known locals at
      → ((n : ℕ) → n < from → GoesAt h stores known locals n) → (n : ℕ) → n < at + 1 → GoesAt h stores known locals n
  goes_past from at differ here so_far n within = elim (leb_tells from n) [
    | inr before ↦ so_far n (omega (arith, before.1))
    | inl past ↦ elim (eqb_tells n at) [
      | inl same ↦ subst (GoesAt h stores known locals) (sym same.1) here
      | inr other ↦ same_goes n (differ.2 n past.1 (omega (arith, within, other.1)))
    ]
  ]

  -- where they differ at none more
  pub first_go : (from : ℕ) → EndsBy (word_at stores.locals locals) stores.locals.most → ((n : ℕ) → from ≤ n → word_at stores.locals known.locals n ≡ word_at stores.locals locals n)
      → ((n : ℕ) → n < from → GoesAt h stores known locals n) → GoToFirst h stores locals known.active.items known.held
  first_go from end same so_far j d below =
      let list = fits.active_listed j d (omega (arith, below, held.inside)) in
      let high = word_at stores.locals (get_or known.active.items j d).locals in
      sym (locals_told h (word_at stores.locals locals) high stores.locals.most stores.locals.most true end list.end (λ n. elim (leb_tells from n) [
        | inl past ↦ same_goes n (same n past.1) j d below
        | inr before ↦ so_far n (omega (arith, before.1)) j d below
      ]))

  -- a place where they differ is one of the locals
  pub differ_inside : (from at : ℕ) → EndsBy (word_at stores.locals locals) stores.locals.most → DifferAt (word_at stores.locals known.locals) (word_at stores.locals locals) from at → at < stores.locals.most
  differ_inside from at end differ = elim (leb_tells stores.locals.most at) [
    | inl past ↦
        let tops : is_same_type (word_at stores.locals known.locals at) (word_at stores.locals locals at) ≡ true =
        ap (λ w. is_same_type w (word_at stores.locals locals at)) (held.there.end at past.1) ∙ ap (λ w. is_same_type Top w) (end at past.1) in
        absurd (true≢false (sym tops ∙ differ.1))
    | inr inside ↦ omega (arith, inside.1)
  ]

-- ---- a span begins

held_more : (h : Hierarchy) (stores : FrameStores) (active : List Span) (locals : Words) (held : ℕ) (s : Span) → AreHeld h stores active locals held → AreHeld h stores (active ++ s ∷ []) locals held
held_more h stores active locals held s are = record {
  there = are.there;
  inside = omega (arith, are.inside, length_push active s);
  go = λ j d below.
      subst (λ (x : Span). GoTo h stores locals x.locals) (sym (get_or_append_left active (s ∷ []) d j (omega (arith, below, are.inside)))) (are.go j d below);
}

seen_begun : (spans : List Span) (begun : ℕ) (active : List Span) (step : ℕ) (next s : Span) → slice_get spans begun ≡ Some next
    → IsSeen spans begun active step s → IsSeen spans (begun + 1) (active ++ next ∷ []) step s
seen_begun spans begun active step next s at (inl from) = elim (eqb_tells from.0 begun) [
  | inl here ↦
      let same : next ≡ s = sym (get_or_from_slice_get spans begun next s at) ∙ ap (λ j. get_or spans j s) (sym here.1) ∙ from.3 in
      inr (inl (subst (λ x. Contains (active ++ next ∷ []) x) same (Contains-push active next)))
  | inr other ↦ inl (from.0, omega (arith, from.1, other.1), from.2, from.3)
]
seen_begun spans begun active step next s at (inr (inl there)) = inr (inl (Contains-append_left active (next ∷ []) s there))
seen_begun spans begun active step next s at (inr (inr ended)) = inr (inr ended)

pub one_begins : (old new : CoveringHandlers) (next : Span) (step : ℕ) → slice_get old.spans.items old.begun ≡ Some next
    → new.spans.items ≡ old.spans.items → new.active.items ≡ old.active.items ++ next ∷ [] → new.begun ≡ old.begun + 1 → new.locals ≡ old.locals → new.since ≡ old.since → new.held ≡ old.held → new.limit ≡ old.limit → GoesOn old new step
one_begins old new next step at spans active begun locals since held limit = record {
  fits = λ h stores fits.
      let list : AreLocals stores next.locals =
      subst (λ (x : Span). AreLocals stores x.locals) (get_or_from_slice_get old.spans.items old.begun next next at) (fits.listed old.begun next (slice_get_within old.spans.items old.begun next at)) in
      record {
        sorted = subst (λ l. IsNonDecreasingBy (λ (s : Span). s.first) l) (sym spans) fits.sorted;
        listed = subst (AreListed stores) (sym spans) fits.listed;
        active_listed = subst (AreListed stores) (sym active) (All-push (λ (x : Span). AreLocals stores x.locals) old.active.items next fits.active_listed list);
        since = omega (arith, since, fits.since);
        holds = λ still.
            subst (λ a. AreHeld h stores a new.locals new.held) (sym active)
            (subst (λ l. AreHeld h stores (old.active.items ++ next ∷ []) l new.held) (sym locals)
            (subst (λ n. AreHeld h stores (old.active.items ++ next ∷ []) old.locals n) (sym held)
            (held_more h stores old.active.items old.locals old.held next (fits.holds (still ∙ since)))));
      };
  knows = λ env stores. knows_seen stores old new env step limit
      (λ s seen. subst (λ l. IsSeen l new.begun new.active.items step s) (sym spans)
      (subst (λ n. IsSeen old.spans.items n new.active.items step s) (sym begun)
      (subst (λ a. IsSeen old.spans.items (old.begun + 1) a step s) (sym active)
      (seen_begun old.spans.items old.begun old.active.items step next s at seen))));
  begun = λ behind j d from.
      subst (λ l. j < length l → step < (get_or l j d).first) (sym spans) (behind j d (omega (arith, from, begun)));
  limit = limit;
}

-- where one span begins after an instruction, so do all that follow
pub rest_behind : (spans : List Span) (begun step : ℕ) (next : Span) → IsNonDecreasingBy (λ (s : Span). s.first) spans → slice_get spans begun ≡ Some next → step < next.first → BeginBehind spans begun step
rest_behind spans begun step next sorted at behind j d from inside =
    let first : get_or spans begun d ≡ next = get_or_from_slice_get spans begun next d at in
    let less = sorted begun j d from inside in
    let one = ap (λ (s : Span). s.first) first in
    omega (arith, less, one, behind)

-- ---- spans are forgotten

module _ (p : Span → Bool) where
  contains_filter : (spans : List Span) (s : Span) → p s ≡ true → (k : ℕ) → k < length spans → get_or spans k s ≡ s → Contains (filter p spans) s
  contains_filter [] s hit k inside is = absurd (omega (arith, inside))
  contains_filter (x ∷ spans) s hit zero inside is =
      let yes_x : p x ≡ true = ap p is ∙ hit in
      subst (λ l. Contains l s) (sym (filter_yes x spans yes_x)) (zero, omega arith, is)
    where
      filter_yes : (y : Span) (ys : List Span) → p y ≡ true → filter p (y ∷ ys) ≡ y ∷ filter p ys
      filter_yes y ys e = ap (λ b. cond b (y ∷ filter p ys) (filter p ys)) e
  contains_filter (x ∷ spans) s hit (suc k) inside is =
      let rest = contains_filter spans s hit k (omega (arith, inside)) is in
      elim (cases_Bool (p x)) [
        | inl keeps ↦ subst (λ l. Contains l s) (sym (ap (λ b. cond b (x ∷ filter p spans) (filter p spans)) keeps)) (suc rest.0, omega (arith, rest.1), rest.2)
        | inr drops ↦ subst (λ l. Contains l s) (sym (ap (λ b. cond b (x ∷ filter p spans) (filter p spans)) drops)) rest
      ]

abbrev pub lasts : ℕ → Span → Bool
lasts step s = nat_lt step s.end

seen_kept : (spans : List Span) (begun : ℕ) (active : List Span) (step : ℕ) (s : Span) → IsSeen spans begun active step s → IsSeen spans begun (filter (lasts step) active) step s
seen_kept spans begun active step s (inl from) = inl from
seen_kept spans begun active step s (inr (inl there)) = elim (leb_tells (suc step) s.end) [
  | inl on ↦ inr (inl (contains_filter (lasts step) active s on.0 there.0 there.1 there.2))
  | inr ended ↦ inr (inr (omega (arith, ended.1)))
]
seen_kept spans begun active step s (inr (inr ended)) = inr (inr ended)

pub ended_forgotten : (old new : CoveringHandlers) (step : ℕ) → new.spans.items ≡ old.spans.items → new.active.items ≡ filter (lasts step) old.active.items → new.begun ≡ old.begun → new.locals ≡ old.locals → new.since ≡ old.since
    → (new.held ≡ 0) ⊎ ((old.held ≡ length old.active.items) × (new.held ≡ length new.active.items)) → new.limit ≡ old.limit → GoesOn old new step
ended_forgotten old new step spans active begun locals since held limit = record {
  fits = λ h stores fits. record {
    sorted = subst (λ l. IsNonDecreasingBy (λ (s : Span). s.first) l) (sym spans) fits.sorted;
    listed = subst (AreListed stores) (sym spans) fits.listed;
    active_listed = subst (AreListed stores) (sym active) (All-filter (lasts step) (λ (s : Span). AreLocals stores s.locals) old.active.items fits.active_listed);
    since = omega (arith, since, fits.since);
    holds = λ still.
        let held_before = fits.holds (still ∙ since) in
        record {
          there = subst (AreFixedLocals stores) (sym locals) held_before.there;
          inside = elim held [
            | inl none ↦ omega (arith, none)
            | inr all ↦ omega (arith, all.1)
          ];
          go = elim held [
            | inl none ↦ λ j d below. absurd (omega (arith, below, none))
            | inr all ↦
                let go : All (λ (s : Span). GoTo h stores old.locals s.locals) old.active.items = λ j d inside. held_before.go j d (omega (arith, inside, all.0)) in
                subst (λ l. GoToFirst h stores l new.active.items new.held) (sym locals)
                (subst (λ n. GoToFirst h stores old.locals new.active.items n) (sym all.1)
                (subst (All (λ (s : Span). GoTo h stores old.locals s.locals)) (sym active) (All-filter (lasts step) (λ (s : Span). GoTo h stores old.locals s.locals) old.active.items go)))
          ];
        };
  };
  knows = λ env stores. knows_seen stores old new env step limit
      (λ s seen. subst (λ l. IsSeen l new.begun new.active.items step s) (sym spans)
      (subst (λ n. IsSeen old.spans.items n new.active.items step s) (sym begun)
      (subst (λ a. IsSeen old.spans.items old.begun a step s) (sym active)
      (seen_kept old.spans.items old.begun old.active.items step s seen))));
  begun = λ behind. subst (λ l. BeginBehind l new.begun step) (sym spans) (subst (λ n. BeginBehind old.spans.items n step) (sym begun) behind);
  limit = limit;
}

-- ---- the instruction

le_of : (m n : ℕ) → nat_le m n ≡ true → m ≤ n
le_of m n b = elim (leb_tells m n) [
  | inl hit ↦ hit.1
  | inr miss ↦ absurd (true≢false (sym b ∙ miss.0))
]

covers : (h : TypedHandler) (step : ℕ) → is_covered h step ≡ true → (h.first ≤ step) × (step < h.end)
covers h step e =
    let both = and_parts (nat_le h.first step) (nat_lt step h.end) e in
    (le_of h.first step both.0, le_of (suc step) h.end both.1)

-- where all spans have begun that begin by the instruction, and the active ones take the frame, no rule is broken
pub covered_taken : (stores : FrameStores) (known : CoveringHandlers) (env : Environment) (step : ℕ) (frame : CurrentFrame) → KnowsHandlers stores known env step → HasBegun known step → step < known.limit
    → TakesFrame env.hierarchy stores frame known.active.items → handlers_fault env step (shown stores frame) env.handlers ≡ None
covered_taken stores known env step frame knows begun limit takes =
    none_broken env step (shown stores frame) env.handlers (λ h c covered.
    let within = covers h step covered in
    elim (knows h c) [
      | inl past ↦ absurd (omega (arith, past, within.0, limit))
      | inr seen ↦ one h seen.0 within.0 within.1 seen.1 seen.2
    ])
  where
    one : (h : TypedHandler) (s : Span) → h.first ≤ step → step < h.end → StandsFor env stores h s → IsSeen known.spans.items known.begun known.active.items step s → handler_fault env (shown stores frame) h ≡ None
    one h s from to stands (inl later) =
        let behind = begun later.0 s later.1 later.2 in
        let is = ap (λ (x : Span). x.first) later.3 in
        absurd (omega (arith, behind, is, stands.first, from))
    one h s from to stands (inr (inl there)) =
        let go = All-contains (λ (x : Span). (frame.unset ≡ false) × GoTo env.hierarchy stores frame.locals x.locals) known.active.items s takes there in
        stands.takes (shown stores frame) (first_count (word_at stores.locals frame.locals) stores.locals.most) go.0 go.1
    one h s from to stands (inr (inr ended)) = absurd (omega (arith, ended, to, stands.end))

-- what holds anyway holds of what is in an Ok
pub if_ok : (X E : Type 0) (r : Result X E) (P : Type 0) → P → IfOk r (λ x. P)
if_ok X E (Ok x) P p = p
if_ok X E (Err e) P p = tt
