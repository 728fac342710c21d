-- A line is read as what it says, and what is read of it is what it says.
use Rattle.std.proofs.Common.{◌≡◌, ℕ, zero, suc, ◌<◌, ◌≤◌, ◌^◌, ◌==◌, Bool, true, false, ◌&&◌, cond, nat_le, codes, List, ◌∷◌, ◌++◌, Option, Some, None, option_map, bytes_eq, refl, sym, ap, ◌∙◌, subst, arith, inl, inr}
use Rattle.std.specs.Option.{option_and_then}
use Rattle.std.specs.Fmt.{decimal}
use Rattle.std.proofs.lemmas.Bool.{cases_Bool, leb-true, le-leb, eqb-true, ne_eqb}
use Rattle.std.proofs.lemmas.Option.{same_Some}
use Rattle.std.proofs.lemmas.Slice.Eq.{bytes_eq-Decides}
use Rattle.decimal_numbers.specs.Numbers.{are_digits, number_up_to}
use Rattle.op_core.specs.declared.Event.{Event}
use Rattle.op_core.specs.declared.Line.TheVariants.{Empty}
use Rattle.op_core.specs.declared.Op.{Op}
use Rattle.op_core.specs.declared.Op.TheVariants.{ClassOf, Read, Write, New, Enter, Exit, Wait, Rewake, Notify, Print, Start, Join, Init, InitDone, End}
use Rattle.op_core.specs.declared.Reply.{Reply}
use Rattle.op_core.specs.declared.Reply.TheVariants.{Class, Value, Made, Done, NotOwner, Woken, Number, Already, Ready, Bad, Claimed}
use Rattle.trace_journal.specs.declared.item.Answered.{Answered}
use Rattle.trace_journal.specs.declared.item.JournalItem.{JournalItem}
use Rattle.trace_journal.specs.declared.item.JournalItem.TheVariants.{Event as event_item, Undone}
use Rattle.trace_journal.specs.Parsing.{cut, u32_of, small_of, answered, of_none, of_one, init_reply, done_reply, of_word, of_three, with_three, with_word, with_one, answered_of, event_with, event_of, undone_words, undone_of, item_of, item_at}
use Rattle.trace_journal.specs.Spelling.{joined, event_words, event_line, undone_line, spelled, CanBeSaid, IsEventItem, IsItem, Says}
use Rattle.trace_journal.proofs.CutLemmas.{uncut, uncut_cut, cut_digits, cut_last}
use Rattle.trace_journal.proofs.NumberLemmas.{decimal_digits, number_of, number_is}

mapped : {A B : Type 0} (f : A → B) (o : Option A) (y : B) → option_map f o ≡ Some y → (x : A) × (o ≡ Some x) × (f x ≡ y)
mapped f None y e = absurd cc
mapped f (Some x) y e = (x, refl, same_Some (f x) y e)

went_on : {A B : Type 0} (f : A → Option B) (o : Option A) (y : B) → option_and_then f o ≡ Some y → (x : A) × (o ≡ Some x) × (f x ≡ Some y)
went_on f None y e = absurd cc
went_on f (Some x) y e = (x, refl, e)

-- a choice by a name
chosen : {P : Type 0} {A : Type 0} (name word : List ℕ) (x y z : A) → cond (bytes_eq name word) x y ≡ z → (name ≡ word → x ≡ z → P) → (y ≡ z → P) → P
chosen name word x y z e is other = elim (cases_Bool (bytes_eq name word)) [
  | inl t ↦ is ((bytes_eq-Decides name word).0 t) (ap (λ b. cond b x y) (sym t) ∙ e)
  | inr f ↦ other (ap (λ b. cond b x y) (sym f) ∙ e)
]

word_is : (word : List ℕ) (n : ℕ) → u32_of word ≡ Some n → (n < 2 ^ 32) × (word ≡ decimal n)
word_is word n e = let k = number_is 4294967295 word n (omega arith) e in (omega (arith, k.0), k.1)

byte_is : (word : List ℕ) (n : ℕ) → number_up_to 255 word ≡ Some n → (n < 2 ^ 8) × (word ≡ decimal n)
byte_is word n e = let k = number_is 255 word n (omega arith) e in (omega (arith, k.0), k.1)

-- from what is read to the line

abbrev IsSaid : Answered → List ℕ → Type 0
IsSaid a line = CanBeSaid a.op a.reply × (line ≡ joined (event_words a.op a.reply))

said : (op : Op) (reply : Reply) (a : Answered) (line : List ℕ) → answered op reply ≡ Some a → CanBeSaid op reply → line ≡ joined (event_words op reply) → IsSaid a line
said op reply a line e can is = subst (λ b. IsSaid b line) (same_Some (record { op = op; reply = reply }) a e) (can, is)

nothing : {P : Type 0} {a : Answered} → None ≡ Some a → P
nothing e = absurd cc

none_said : (name : List ℕ) (a : Answered) → of_none name ≡ Some a → IsSaid a name
none_said name a e =
    chosen name (codes "print") _ _ _ e (λ is x. said (Print Empty) Done a name x (record { fits = tt; op_range = tt; reply_range = tt; line = refl }) is)
    (λ e. chosen name (codes "end") _ _ _ e (λ is x. said (End None) Done a name x (record { fits = tt; op_range = tt; reply_range = tt; line = tt }) is)
    nothing)

one_said : (name : List ℕ) (n : ℕ) (a : Answered) → n < 2 ^ 32 → of_one name n ≡ Some a → IsSaid a (name ++ 32 ∷ decimal n)
one_said name n a h e =
    let line = name ++ 32 ∷ decimal n in
    let with : (word : List ℕ) → name ≡ word → line ≡ word ++ 32 ∷ decimal n = λ word is. ap (λ w. w ++ 32 ∷ decimal n) is in
    chosen name (codes "enter") _ _ _ e (λ is x. said (Enter n) Done a line x (record { fits = tt; op_range = h; reply_range = tt; line = tt }) (with _ is))
    (λ e. chosen name (codes "exit") _ _ _ e (λ is x. said (Exit n) Done a line x (record { fits = tt; op_range = h; reply_range = tt; line = tt }) (with _ is))
    (λ e. chosen name (codes "wait") _ _ _ e (λ is x. said (Wait n) Done a line x (record { fits = tt; op_range = h; reply_range = tt; line = tt }) (with _ is))
    (λ e. chosen name (codes "rewake") _ _ _ e (λ is x. said (Rewake n) Done a line x (record { fits = tt; op_range = h; reply_range = tt; line = tt }) (with _ is))
    (λ e. chosen name (codes "join") _ _ _ e (λ is x. said (Join n) Done a line x (record { fits = tt; op_range = h; reply_range = tt; line = tt }) (with _ is))
    (λ e. chosen name (codes "died") _ _ _ e (λ is x. said (End (Some n)) Done a line x (record { fits = tt; op_range = tt; reply_range = tt; line = h }) (with _ is))
    nothing)))))

-- a name, a number and a last word
abbrev line_of : List ℕ → ℕ → List ℕ → List ℕ
line_of name n word = name ++ 32 ∷ (decimal n ++ 32 ∷ word)

same_line : (name name' : List ℕ) (n : ℕ) (word word' : List ℕ) → name ≡ name' → word ≡ word' → line_of name n word ≡ line_of name' n word'
same_line name name' n word word' e f i = line_of (e i) n (f i)

init_said : (name : List ℕ) (n : ℕ) (word : List ℕ) (a : Answered) → name ≡ codes "init" → n < 2 ^ 32 → init_reply n word ≡ Some a → IsSaid a (line_of name n word)
init_said name n word a named h e =
    chosen word (codes "ready") _ _ _ e (λ is x. said (Init n) Ready a _ x (record { fits = tt; op_range = h; reply_range = tt; line = tt }) (same_line _ _ n _ _ named is))
    (λ e. chosen word (codes "bad") _ _ _ e (λ is x. said (Init n) Bad a _ x (record { fits = tt; op_range = h; reply_range = tt; line = tt }) (same_line _ _ n _ _ named is))
    (λ e. chosen word (codes "claimed") _ _ _ e (λ is x. said (Init n) Claimed a _ x (record { fits = tt; op_range = h; reply_range = tt; line = tt }) (same_line _ _ n _ _ named is))
    nothing))

done_said : (name : List ℕ) (n : ℕ) (word : List ℕ) (a : Answered) → name ≡ codes "done" → n < 2 ^ 32 → done_reply n word ≡ Some a → IsSaid a (line_of name n word)
done_said name n word a named h e =
    chosen word (codes "ok") _ _ _ e (λ is x. said (InitDone n true) Done a _ x (record { fits = tt; op_range = h; reply_range = tt; line = tt }) (same_line _ _ n _ _ named is))
    (λ e. chosen word (codes "bad") _ _ _ e (λ is x. said (InitDone n false) Done a _ x (record { fits = tt; op_range = h; reply_range = tt; line = tt }) (same_line _ _ n _ _ named is))
    nothing)

-- the reply of an operation on a monitor that the thread doesn't own
no_said : (op : Op) (name : List ℕ) (n : ℕ) (word : List ℕ) (a : Answered) (named : List ℕ) → name ≡ named → CanBeSaid op NotOwner → line_of named n (codes "no") ≡ joined (event_words op NotOwner)
    → (other : Option Answered) → (other ≡ Some a → IsSaid a (line_of name n word)) → cond (bytes_eq word (codes "no")) (answered op NotOwner) other ≡ Some a → IsSaid a (line_of name n word)
no_said op name n word a named is can spelled other others e =
    chosen word (codes "no") _ _ _ e (λ no x. said op NotOwner a _ x can (same_line _ _ n _ _ is no ∙ spelled)) others

woken_said : (name : List ℕ) (n : ℕ) (word : List ℕ) (a : Answered) → name ≡ codes "notify" → n < 2 ^ 32
    → option_map (λ k. record { op = Notify n; reply = Woken k }) (number_up_to 255 word) ≡ Some a → IsSaid a (line_of name n word)
woken_said name n word a named h e =
    let k = mapped _ _ a e in
    let byte = byte_is word k.0 k.1 in
    subst (λ b. IsSaid b (line_of name n word)) k.2 (record { fits = tt; op_range = h; reply_range = byte.0; line = tt }, same_line _ _ n _ _ named byte.1)

word_said : (name : List ℕ) (n : ℕ) (word : List ℕ) (a : Answered) → n < 2 ^ 32 → of_word name n word ≡ Some a → IsSaid a (line_of name n word)
word_said name n word a h e =
    chosen name (codes "exit") _ _ _ e (λ is x. no_said (Exit n) name n word a (codes "exit") is (record { fits = tt; op_range = h; reply_range = tt; line = tt }) refl None nothing x)
    (λ e. chosen name (codes "wait") _ _ _ e (λ is x. no_said (Wait n) name n word a (codes "wait") is (record { fits = tt; op_range = h; reply_range = tt; line = tt }) refl None nothing x)
    (λ e. chosen name (codes "notify") _ _ _ e (λ is x. no_said (Notify n) name n word a (codes "notify") is (record { fits = tt; op_range = h; reply_range = tt; line = tt }) refl _ (woken_said name n word a is h) x)
    (λ e. chosen name (codes "init") _ _ _ e (λ is x. init_said name n word a is h x)
    (λ e. chosen name (codes "done") _ _ _ e (λ is x. done_said name n word a is h x)
    nothing))))

-- a name, two numbers and a last word
abbrev long_line : List ℕ → ℕ → ℕ → List ℕ → List ℕ
long_line name n m word = name ++ 32 ∷ (decimal n ++ 32 ∷ (decimal m ++ 32 ∷ word))

same_long : (name name' : List ℕ) (n m : ℕ) (word word' : List ℕ) → name ≡ name' → word ≡ word' → long_line name n m word ≡ long_line name' n m word'
same_long name name' n m word word' e f i = long_line (e i) n m (f i)

-- an operation or reply with three numbers, of which the last is read
last_said : (of : ℕ → Answered) (name named : List ℕ) (n m : ℕ) (word : List ℕ) (a : Answered) → name ≡ named
    → ((k : ℕ) → k < 2 ^ 32 → CanBeSaid (of k).op (of k).reply × (long_line named n m (decimal k) ≡ joined (event_words (of k).op (of k).reply)))
    → option_map of (u32_of word) ≡ Some a → IsSaid a (long_line name n m word)
last_said of name named n m word a is can e =
    let k = mapped of _ a e in
    let number = word_is word k.0 k.1 in
    let c = can k.0 number.0 in
    subst (λ b. IsSaid b (long_line name n m word)) k.2 (c.0, same_long _ _ n m _ _ is number.1 ∙ c.1)

started_said : (name : List ℕ) (n p : ℕ) (word : List ℕ) (a : Answered) → name ≡ codes "start" → n < 2 ^ 32 → 1 ≤ p → p ≤ 10
    → cond (bytes_eq word (codes "no")) (answered (Start n p) Already) (option_map (λ k. record { op = Start n p; reply = Number k }) (number_up_to 255 word)) ≡ Some a
    → IsSaid a (long_line name n p word)
started_said name n p word a named h low high e =
    let range : (n < 2 ^ 32) × (p < 2 ^ 8) = (h, omega (arith, high)) in
    chosen word (codes "no") _ _ _ e (λ is x. said (Start n p) Already a _ x (record { fits = tt; op_range = range; reply_range = tt; line = (low, high) }) (same_long _ _ n p _ _ named is))
    (λ e. let k = mapped _ _ a e in
    let byte = byte_is word k.0 k.1 in
    subst (λ b. IsSaid b (long_line name n p word)) k.2 (record { fits = tt; op_range = range; reply_range = byte.0; line = (low, high) }, same_long _ _ n p _ _ named byte.1))

start_said : (name : List ℕ) (n p : ℕ) (word : List ℕ) (a : Answered) → n < 2 ^ 32 → (x y z : Bool) → x ≡ bytes_eq name (codes "start") → y ≡ nat_le 1 p → z ≡ nat_le p 10
    → cond (x && y && z) (cond (bytes_eq word (codes "no")) (answered (Start n p) Already) (option_map (λ k. record { op = Start n p; reply = Number k }) (number_up_to 255 word))) None ≡ Some a
    → IsSaid a (long_line name n p word)
start_said name n p word a h true true true x y z e = started_said name n p word a ((bytes_eq-Decides name (codes "start")).0 (sym x)) h (leb-true 1 p (sym y)) (leb-true p 10 (sym z)) e
start_said name n p word a h true true false x y z e = nothing e
start_said name n p word a h true false z' x y z e = nothing e
start_said name n p word a h false y' z' x y z e = nothing e

three_said : (name : List ℕ) (n m : ℕ) (word : List ℕ) (a : Answered) → n < 2 ^ 32 → m < 2 ^ 32 → of_three name n m word ≡ Some a → IsSaid a (long_line name n m word)
three_said name n m word a h g e =
    chosen name (codes "class") _ _ _ e (λ is x. last_said (λ k. record { op = ClassOf n; reply = Class m k }) name (codes "class") n m word a is (λ k l. (record { fits = tt; op_range = h; reply_range = (g, l); line = tt }, refl)) x)
    (λ e. chosen name (codes "read") _ _ _ e (λ is x. last_said (λ k. record { op = Read n m; reply = Value k }) name (codes "read") n m word a is (λ k l. (record { fits = tt; op_range = (h, g); reply_range = l; line = tt }, refl)) x)
    (λ e. chosen name (codes "write") _ _ _ e (λ is x. last_said (λ k. record { op = Write n m k; reply = Done }) name (codes "write") n m word a is (λ k l. (record { fits = tt; op_range = (h, g, l); reply_range = tt; line = tt }, refl)) x)
    (λ e. chosen name (codes "new") _ _ _ e (λ is x. last_said (λ k. record { op = New n m; reply = Made k }) name (codes "new") n m word a is (λ k l. (record { fits = tt; op_range = (h, g); reply_range = l; line = tt }, refl)) x)
    (λ e. start_said name n m word a h _ _ _ refl refl refl e))))

with_three_said : (name : List ℕ) (n m : ℕ) (word : List ℕ) (rest : Option (List ℕ)) (a : Answered) → n < 2 ^ 32 → m < 2 ^ 32
    → with_three name n m (record { word = word; rest = rest }) ≡ Some a → IsSaid a (long_line name n m (uncut word rest))
with_three_said name n m word None a h g e = three_said name n m word a h g e
with_three_said name n m word (Some rest) a h g e = nothing e

with_word_said : (name : List ℕ) (n : ℕ) (word : List ℕ) (rest : Option (List ℕ)) (a : Answered) → n < 2 ^ 32
    → with_word name n (record { word = word; rest = rest }) ≡ Some a → IsSaid a (line_of name n (uncut word rest))
with_word_said name n word None a h e = word_said name n word a h e
with_word_said name n word (Some rest) a h e =
    let k = went_on _ _ a e in
    let number = word_is word k.0 k.1 in
    let is = with_three_said name n k.0 (cut rest).word (cut rest).rest a h number.0 k.2 in
    subst (IsSaid a) (λ i. line_of name n (sym number.1 i ++ 32 ∷ uncut_cut rest i)) is

with_one_said : (name word : List ℕ) (rest : Option (List ℕ)) (a : Answered)
    → with_one name (record { word = word; rest = rest }) ≡ Some a → IsSaid a (name ++ 32 ∷ uncut word rest)
with_one_said name word None a e =
    let k = went_on _ _ a e in
    let number = word_is word k.0 k.1 in
    subst (λ w. IsSaid a (name ++ 32 ∷ w)) (sym number.1) (one_said name k.0 a number.0 k.2)
with_one_said name word (Some rest) a e =
    let k = went_on _ _ a e in
    let number = word_is word k.0 k.1 in
    let is = with_word_said name k.0 (cut rest).word (cut rest).rest a number.0 k.2 in
    subst (IsSaid a) (λ i. name ++ 32 ∷ (sym number.1 i ++ 32 ∷ uncut_cut rest i)) is

answered_said : (word : List ℕ) (rest : Option (List ℕ)) (a : Answered) → answered_of (record { word = word; rest = rest }) ≡ Some a → IsSaid a (uncut word rest)
answered_said word None a e = none_said word a e
answered_said word (Some rest) a e = subst (λ w. IsSaid a (word ++ 32 ∷ w)) (uncut_cut rest) (with_one_said word (cut rest).word (cut rest).rest a e)

-- what the words say that are read so
words_said : (words : List ℕ) (a : Answered) → answered_of (cut words) ≡ Some a → IsSaid a words
words_said words a e = subst (IsSaid a) (uncut_cut words) (answered_said (cut words).word (cut words).rest a e)

small_is : (word : List ℕ) (n : ℕ) → small_of word ≡ Some n → ((1 ≤ n) × (n < 2 ^ 8)) × (word ≡ decimal n)
small_is word n e = positive k.0 k.2 (byte_is word k.0 k.1)
  where
    k : (m : ℕ) × (number_up_to 255 word ≡ Some m) × (cond (m == 0) None (Some m) ≡ Some n)
    k = went_on _ _ n e

    positive : (m : ℕ) → cond (m == 0) None (Some m) ≡ Some n → (m < 2 ^ 8) × (word ≡ decimal m) → ((1 ≤ n) × (n < 2 ^ 8)) × (word ≡ decimal n)
    positive zero e h = absurd cc
    positive (suc m) e h =
        let some : (suc m == 0) ≡ false = ne_eqb (suc m) 0 (λ z. omega (arith, z)) in
        let same : Some (suc m) ≡ Some n = ap (λ b. cond b None (Some (suc m))) (sym some) ∙ e in
        subst (λ x. ((1 ≤ x) × (x < 2 ^ 8)) × (word ≡ decimal x)) (same_Some (suc m) n same) ((omega arith, h.0), h.1)

event_says : (version t : ℕ) (word : List ℕ) (rest : Option (List ℕ)) (item : JournalItem) → (1 ≤ t) × (t < 2 ^ 8)
    → event_of t (record { word = word; rest = rest }) ≡ Some item → Says version (decimal t ++ 32 ∷ uncut word rest) item
event_says version t word rest item h e = by_rest rest k.2
  where
    k : (n : ℕ) × (number_up_to 1000000000 word ≡ Some n) × (option_and_then (λ words. option_map (event_with t n) (answered_of (cut words))) rest ≡ Some item)
    k = went_on _ _ item e

    number : (k.0 ≤ 1000000000) × (word ≡ decimal k.0)
    number = number_is 1000000000 word k.0 (omega arith) k.1

    by_words : (words : List ℕ) → option_map (event_with t k.0) (answered_of (cut words)) ≡ Some item → Says version (decimal t ++ 32 ∷ (word ++ 32 ∷ words)) item
    by_words words e =
        let m = mapped _ _ item e in
        let is = words_said words m.0 m.1 in
        subst (Says version (decimal t ++ 32 ∷ (word ++ 32 ∷ words))) m.2
        (record { thread = h; silent = number.0; said = is.0 }, λ i. decimal t ++ 32 ∷ (number.1 i ++ 32 ∷ is.1 i))

    by_rest : (rest : Option (List ℕ)) → option_and_then (λ words. option_map (event_with t k.0) (answered_of (cut words))) rest ≡ Some item → Says version (decimal t ++ 32 ∷ uncut word rest) item
    by_rest None e = absurd cc
    by_rest (Some words) e = by_words words e

undone_last : (t : ℕ) (word : List ℕ) (rest : Option (List ℕ)) (item : JournalItem) → (1 ≤ t) × (t < 2 ^ 8)
    → undone_words t (record { word = word; rest = rest }) ≡ Some item → Says 2 (codes "undone" ++ 32 ∷ (decimal t ++ 32 ∷ uncut word rest)) item
undone_last t word rest item h e = by_rest rest k.2
  where
    k : (l : ℕ) × (small_of word ≡ Some l) × (option_and_then (λ words. option_map (Undone t l) (u32_of words)) rest ≡ Some item)
    k = went_on _ _ item e

    level : ((1 ≤ k.0) × (k.0 < 2 ^ 8)) × (word ≡ decimal k.0)
    level = small_is word k.0 k.1

    by_rest : (rest : Option (List ℕ)) → option_and_then (λ words. option_map (Undone t k.0) (u32_of words)) rest ≡ Some item → Says 2 (codes "undone" ++ 32 ∷ (decimal t ++ 32 ∷ uncut word rest)) item
    by_rest None e = absurd cc
    by_rest (Some words) e =
        let m = mapped _ _ item e in
        let count = word_is words m.0 m.1 in
        subst (Says 2 (codes "undone" ++ 32 ∷ (decimal t ++ 32 ∷ (word ++ 32 ∷ words)))) m.2
        ((refl, h, level.0, count.0), λ i. codes "undone" ++ 32 ∷ (decimal t ++ 32 ∷ (level.1 i ++ 32 ∷ count.1 i)))

undone_says : (word : List ℕ) (rest : Option (List ℕ)) (item : JournalItem) → undone_of (record { word = word; rest = rest }) ≡ Some item → Says 2 (codes "undone" ++ 32 ∷ uncut word rest) item
undone_says word rest item e = by_rest rest k.2
  where
    k : (t : ℕ) × (small_of word ≡ Some t) × (option_and_then (λ words. undone_words t (cut words)) rest ≡ Some item)
    k = went_on _ _ item e

    thread : ((1 ≤ k.0) × (k.0 < 2 ^ 8)) × (word ≡ decimal k.0)
    thread = small_is word k.0 k.1

    by_rest : (rest : Option (List ℕ)) → option_and_then (λ words. undone_words k.0 (cut words)) rest ≡ Some item → Says 2 (codes "undone" ++ 32 ∷ uncut word rest) item
    by_rest None e = absurd cc
    by_rest (Some words) e =
        subst (λ w. Says 2 w item) (λ i. codes "undone" ++ 32 ∷ (sym thread.1 i ++ 32 ∷ uncut_cut words i))
        (undone_last k.0 (cut words).word (cut words).rest item thread.0 e)

by_version : (version : ℕ) (words : List ℕ) (item : JournalItem) → cond (version == 2) (undone_of (cut words)) None ≡ Some item → Says version (codes "undone" ++ 32 ∷ words) item
by_version version words item e = elim (cases_Bool (version == 2)) [
  | inl is ↦ subst (λ v. Says v (codes "undone" ++ 32 ∷ words) item) (sym (eqb-true version 2 is))
      (subst (λ w. Says 2 (codes "undone" ++ 32 ∷ w) item) (uncut_cut words) (undone_says (cut words).word (cut words).rest item (ap (λ b. cond b (undone_of (cut words)) None) (sym is) ∙ e)))
  | inr other ↦ absurd (let no : None ≡ Some item = ap (λ b. cond b (undone_of (cut words)) None) (sym other) ∙ e in cc)
]

item_says : (version : ℕ) (word words : List ℕ) (item : JournalItem) → item_of version word words ≡ Some item → Says version (word ++ 32 ∷ words) item
item_says version word words item e =
    chosen word (codes "undone") _ _ _ e (λ is x. subst (λ w. Says version (w ++ 32 ∷ words) item) (sym is) (by_version version words item x))
    (λ e. let k = went_on _ _ item e in
    let thread = small_is word k.0 k.1 in
    subst (λ w. Says version w item) (λ i. sym thread.1 i ++ 32 ∷ uncut_cut words i) (event_says version k.0 (cut words).word (cut words).rest item thread.0 k.2))

at_says : (version : ℕ) (word : List ℕ) (rest : Option (List ℕ)) (item : JournalItem) → item_at version (record { word = word; rest = rest }) ≡ Some item → Says version (uncut word rest) item
at_says version word None item e = absurd cc
at_says version word (Some words) item e = item_says version word words item e

-- the line says what is read of it
pub says : (version : ℕ) (line : List ℕ) (item : JournalItem) → item_at version (cut line) ≡ Some item → Says version line item
says version line item e = subst (λ w. Says version w item) (uncut_cut line) (at_says version (cut line).word (cut line).rest item e)

-- from the line to what is read

cut_number : (n : ℕ) (rest : List ℕ) → n < 2 ^ 64 → cut (decimal n ++ 32 ∷ rest) ≡ record { word = decimal n; rest = Some rest }
cut_number n rest h = cut_digits (decimal n) rest (decimal_digits n h)

cut_end : (n : ℕ) → n < 2 ^ 64 → cut (decimal n) ≡ record { word = decimal n; rest = None }
cut_end n h = cut_last (decimal n) (decimal_digits n h)

u32_decimal : (n : ℕ) → n < 2 ^ 32 → u32_of (decimal n) ≡ Some n
u32_decimal n h = number_of 4294967295 n (omega arith) (omega (arith, h))

byte_decimal : (n : ℕ) → n < 2 ^ 8 → number_up_to 255 (decimal n) ≡ Some n
byte_decimal n h = number_of 255 n (omega arith) (omega (arith, h))

one_back : (name : List ℕ) (n : ℕ) → n < 2 ^ 32 → with_one name (cut (decimal n)) ≡ of_one name n
one_back name n h = ap (with_one name) (cut_end n (omega (arith, h))) ∙ ap (option_and_then (λ a. of_one name a)) (u32_decimal n h)

more_back : (name : List ℕ) (n : ℕ) (rest : List ℕ) → n < 2 ^ 32 → with_one name (cut (decimal n ++ 32 ∷ rest)) ≡ with_word name n (cut rest)
more_back name n rest h = ap (with_one name) (cut_number n rest (omega (arith, h))) ∙ ap (option_and_then (λ a. with_word name a (cut rest))) (u32_decimal n h)

third_back : (name : List ℕ) (n m : ℕ) (rest : List ℕ) → n < 2 ^ 32 → m < 2 ^ 32 → with_one name (cut (decimal n ++ 32 ∷ (decimal m ++ 32 ∷ rest))) ≡ with_three name n m (cut rest)
third_back name n m rest h g = more_back name n (decimal m ++ 32 ∷ rest) h ∙ ap (with_word name n) (cut_number m rest (omega (arith, g))) ∙ ap (option_and_then (λ b. with_three name n b (cut rest))) (u32_decimal m g)

three_back : (name : List ℕ) (n m k : ℕ) → n < 2 ^ 32 → m < 2 ^ 32 → k < 2 ^ 32 → with_one name (cut (decimal n ++ 32 ∷ (decimal m ++ 32 ∷ decimal k))) ≡ of_three name n m (decimal k)
three_back name n m k h g f = third_back name n m (decimal k) h g ∙ ap (with_three name n m) (cut_end k (omega (arith, f)))

started_back : (n p k : ℕ) → 1 ≤ p → p ≤ 10 → k < 2 ^ 8 → bytes_eq (decimal k) (codes "no") ≡ false → of_three (codes "start") n p (decimal k) ≡ Some (record { op = Start n p; reply = Number k })
started_back n p k low high h differs =
    let first : nat_le 1 p ≡ true = le-leb 1 p low in
    let second : nat_le p 10 ≡ true = le-leb p 10 high in
    rw (first, second, differs) (ap (option_map (λ j. record { op = Start n p; reply = Number j })) (byte_decimal k h))

already_back : (n p : ℕ) → 1 ≤ p → p ≤ 10 → of_three (codes "start") n p (codes "no") ≡ Some (record { op = Start n p; reply = Already })
already_back n p low high =
    let first : nat_le 1 p ≡ true = le-leb 1 p low in
    let second : nat_le p 10 ≡ true = le-leb p 10 high in
    rw (first, second) refl

-- digits are no other word
differs : (n : ℕ) (word : List ℕ) → n < 2 ^ 64 → are_digits word ≡ false → bytes_eq (decimal n) word ≡ false
differs n word h not = elim (cases_Bool (bytes_eq (decimal n) word)) [
  | inl is ↦ absurd (let same : decimal n ≡ word = (bytes_eq-Decides (decimal n) word).0 is in let digits : are_digits word ≡ true = subst (λ w. are_digits w ≡ true) same (decimal_digits n h) in cc)
  | inr other ↦ other
]

woken_back : (n k : ℕ) → k < 2 ^ 8 → of_word (codes "notify") n (decimal k) ≡ Some (record { op = Notify n; reply = Woken k })
woken_back n k h =
    let other : bytes_eq (decimal k) (codes "no") ≡ false = differs k (codes "no") (omega (arith, h)) refl in
    rw other (ap (option_map (λ j. record { op = Notify n; reply = Woken j })) (byte_decimal k h))

words_back : (op : Op) (reply : Reply) → CanBeSaid op reply → answered_of (cut (joined (event_words op reply))) ≡ Some (record { op = op; reply = reply })
words_back (ClassOf r) (Class c l) h = three_back (codes "class") r c l h.op_range h.reply_range.0 h.reply_range.1 ∙ ap (option_map (λ k. record { op = ClassOf r; reply = Class c k })) (u32_decimal l h.reply_range.1)
words_back (Read r i) (Value v) h = three_back (codes "read") r i v h.op_range.0 h.op_range.1 h.reply_range ∙ ap (option_map (λ k. record { op = Read r i; reply = Value k })) (u32_decimal v h.reply_range)
words_back (Write r i v) Done h = three_back (codes "write") r i v h.op_range.0 h.op_range.1 h.op_range.2 ∙ ap (option_map (λ k. record { op = Write r i k; reply = Done })) (u32_decimal v h.op_range.2)
words_back (New c l) (Made r) h = three_back (codes "new") c l r h.op_range.0 h.op_range.1 h.reply_range ∙ ap (option_map (λ k. record { op = New c l; reply = Made k })) (u32_decimal r h.reply_range)
words_back (Enter r) Done h = one_back (codes "enter") r h.op_range
words_back (Exit r) Done h = one_back (codes "exit") r h.op_range
words_back (Exit r) NotOwner h = more_back (codes "exit") r (codes "no") h.op_range
words_back (Wait r) Done h = one_back (codes "wait") r h.op_range
words_back (Wait r) NotOwner h = more_back (codes "wait") r (codes "no") h.op_range
words_back (Rewake r) Done h = one_back (codes "rewake") r h.op_range
words_back (Notify r) (Woken n) h = more_back (codes "notify") r (decimal n) h.op_range ∙ ap (with_word (codes "notify") r) (cut_end n (omega (arith, h.reply_range))) ∙ woken_back r n h.reply_range
words_back (Notify r) NotOwner h = more_back (codes "notify") r (codes "no") h.op_range
words_back (Print x) Done h = ap (λ y. Some (record { op = Print y; reply = Done })) (sym h.line)
words_back (Start r p) (Number n) h =
    third_back (codes "start") r p (decimal n) h.op_range.0 (omega (arith, h.op_range.1)) ∙ ap (with_three (codes "start") r p) (cut_end n (omega (arith, h.reply_range)))
    ∙ started_back r p n h.line.0 h.line.1 h.reply_range (differs n (codes "no") (omega (arith, h.reply_range)) refl)
words_back (Start r p) Already h = third_back (codes "start") r p (codes "no") h.op_range.0 (omega (arith, h.op_range.1)) ∙ already_back r p h.line.0 h.line.1
words_back (Join r) Done h = one_back (codes "join") r h.op_range
words_back (Init c) Ready h = more_back (codes "init") c (codes "ready") h.op_range
words_back (Init c) Bad h = more_back (codes "init") c (codes "bad") h.op_range
words_back (Init c) Claimed h = more_back (codes "init") c (codes "claimed") h.op_range
words_back (InitDone c true) Done h = more_back (codes "done") c (codes "ok") h.op_range
words_back (InitDone c false) Done h = more_back (codes "done") c (codes "bad") h.op_range
words_back (End None) Done h = refl
words_back (End (Some c)) Done h = one_back (codes "died") c h.line
words_back op reply h = absurd h.fits

small_decimal : (n : ℕ) → 1 ≤ n → n < 2 ^ 8 → small_of (decimal n) ≡ Some n
small_decimal n low h =
    let some : (n == 0) ≡ false = ne_eqb n 0 (λ e. omega (arith, e, low)) in
    ap (option_and_then (λ k. cond (k == 0) None (Some k))) (byte_decimal n h) ∙ rw some refl

event_back : (version : ℕ) (e : Event) → IsEventItem e → item_at version (cut (event_line e)) ≡ Some (event_item e)
event_back version e h =
    let words = joined (event_words e.op e.reply) in
    let t : e.thread < 2 ^ 64 = omega (arith, h.thread.1) in
    let n : e.silent < 2 ^ 64 = omega (arith, h.silent) in
    let other : bytes_eq (decimal e.thread) (codes "undone") ≡ false = differs e.thread (codes "undone") t refl in
    ap (item_at version) (cut_number e.thread (decimal e.silent ++ 32 ∷ words) t)
    ∙ ap (λ b. cond b (cond (version == 2) (undone_of (cut (decimal e.silent ++ 32 ∷ words))) None) (option_and_then (λ thread. event_of thread (cut (decimal e.silent ++ 32 ∷ words))) (small_of (decimal e.thread)))) other
    ∙ ap (option_and_then (λ thread. event_of thread (cut (decimal e.silent ++ 32 ∷ words)))) (small_decimal e.thread h.thread.0 h.thread.1)
    ∙ ap (event_of e.thread) (cut_number e.silent words n)
    ∙ ap (option_and_then (λ silent. option_map (event_with e.thread silent) (answered_of (cut words)))) (number_of 1000000000 e.silent (omega arith) h.silent)
    ∙ ap (option_map (event_with e.thread e.silent)) (words_back e.op e.reply h.said)

undone_back : (t l k : ℕ) → (1 ≤ t) × (t < 2 ^ 8) → (1 ≤ l) × (l < 2 ^ 8) → k < 2 ^ 32 → item_at 2 (cut (undone_line t l k)) ≡ Some (Undone t l k)
undone_back t l k h g f =
    ap undone_of (cut_number t (decimal l ++ 32 ∷ decimal k) (omega (arith, h.1)))
    ∙ ap (option_and_then (λ thread. undone_words thread (cut (decimal l ++ 32 ∷ decimal k)))) (small_decimal t h.0 h.1)
    ∙ ap (undone_words t) (cut_number l (decimal k) (omega (arith, g.1)))
    ∙ ap (option_and_then (λ level. option_map (Undone t level) (u32_of (decimal k)))) (small_decimal l g.0 g.1)
    ∙ ap (option_map (Undone t l)) (u32_decimal k f)

-- a line is read as the item that it says
pub read_back : (version : ℕ) (item : JournalItem) → IsItem version item → item_at version (cut (spelled item)) ≡ Some item
read_back version (event_item e) h = event_back version e h
read_back version (Undone t l k) h = subst (λ v. item_at v (cut (undone_line t l k)) ≡ Some (Undone t l k)) (sym h.0) (undone_back t l k h.1 h.2 h.3)

-- .. so it says none where none is read
pub says_nothing : (version : ℕ) (line : List ℕ) → item_at version (cut line) ≡ None → (item : JournalItem) → Says version line item → ⊥
says_nothing version line e item h =
    let back : item_at version (cut line) ≡ Some item = subst (λ w. item_at version (cut w) ≡ Some item) (sym h.1) (read_back version item h.0) in
    let no : None ≡ Some item = sym e ∙ back in
    cc
