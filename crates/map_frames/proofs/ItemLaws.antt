-- Items of locals, and words of stacks, one after the other.
use Rattle.std.proofs.Common.{◌≡◌, ◌≢◌, None, ℕ, zero, suc, ◌+◌, ◌-◌, ◌<◌, ◌≤◌, Bool, List, [], ◌∷◌, ◌++◌, map, take, length, get_or, reverse, append_assoc, refl, sym, ◌∙◌, ap, subst, arith}
use Rattle.std.proofs.lemmas.List.{length-reverse, length-append, length_push, length-map, take_more, take-take, take-map, map-append, reverse-append}
use Rattle.code_frames.specs.declared.types.VType.{VType}
use Rattle.type_rules.specs.declared.types.VerificationType.{VerificationType}
use Rattle.type_rules.specs.declared.types.VerificationType.TheVariants.{Top, Int, Float, Long, Double, Second, Null, UninitThis, Uninit, Object}
use Rattle.type_rules.specs.Assignable.{Hierarchy}
use Rattle.type_rules.specs.Environment.{TypeFrame, in_locals}
use Rattle.type_rules.specs.MapFrames.{item_words}
use Rattle.type_lists.specs.Store.{word_at}
use Rattle.type_lists.proofs.ListLaws.{stack_depth}
use Rattle.typing_frames.specs.declared.stores.FrameStores.{FrameStores}
use Rattle.typing_frames.specs.declared.stores.CurrentFrame.{CurrentFrame}
use Rattle.typing_frames.specs.Frames.{shown, IsFrame, StoresFollow, StoresRemember}
use Rattle.typing_frames.proofs.FrameLaws.{stores_follow_itself, stores_follow_on}
use Rattle.map_frames.specs.declared.items.LocalItems.{LocalItems}
use Rattle.map_frames.specs.Mapped.{only_word}
use Rattle.map_frames.specs.Making.{type_frame, AreItems, IsStack, IsFrameInRoom}

-- what a change of locals leaves
pub record Building (old new : FrameStores) (locals : LocalItems) (wanted : List VerificationType) : Type 0 where
  pub follows : StoresFollow old new
  pub remembered : (h : Hierarchy) → StoresRemember h old → StoresRemember h new
  pub are : AreItems new locals
  pub items : locals.items.items ≡ wanted

pub building_none : (old : FrameStores) (locals : LocalItems) (wanted : List VerificationType) → AreItems old locals → locals.items.items ≡ wanted → Building old old locals wanted
building_none old locals wanted are items = record { follows = stores_follow_itself old; remembered = λ h r. r; are = are; items = items }

pub building_more : (old now new : FrameStores) (before after : LocalItems) (ws wanted : List VerificationType) → Building old now before ws
    → StoresFollow now new → ((h : Hierarchy) → StoresRemember h now → StoresRemember h new) → AreItems new after → after.items.items ≡ wanted → Building old new after wanted
building_more old now new before after ws wanted b follows remembered are items = record {
  follows = stores_follow_on old now new b.follows follows;
  remembered = λ h r. remembered h (b.remembered h r);
  are = are;
  items = items;
}

length_take : (n : ℕ) (xs : List VerificationType) → n ≤ length xs → length (take n xs) ≡ n
length_take zero [] h = refl
length_take zero (x ∷ xs) h = refl
length_take (suc n) [] h = absurd (omega (arith, h))
length_take (suc n) (x ∷ xs) h = ap suc (length_take n xs (omega (arith, h)))

-- one item less
pub take_less : (xs : List VerificationType) (n : ℕ) → take (length (take (length xs - n) xs) - 1) (take (length xs - n) xs) ≡ take (length xs - (n + 1)) xs
take_less xs n =
    let some : length (take (length xs - n) xs) ≡ length xs - n = length_take (length xs - n) xs (omega arith) in
    ap (λ k. take (k - 1) (take (length xs - n) xs)) some
    ∙ take-take (length xs - n - 1) (length xs - n) xs (omega arith)
    ∙ ap (λ k. take k xs) (let e : length xs - n - 1 ≡ length xs - (n + 1) = omega arith in e)

-- ---- stacks

reverse_push : (ws : List VerificationType) (w : VerificationType) → reverse (ws ++ w ∷ []) ≡ w ∷ reverse ws
reverse_push ws w = reverse-append ws (w ∷ [])

pub depth_is : (stores : FrameStores) (frame : CurrentFrame) → length (shown stores frame).stack ≡ frame.depth
depth_is stores frame = stack_depth (word_at stores.stacks frame.stack) frame.depth

pub stack_more : (old new : FrameStores) (frame made : CurrentFrame) (word : VerificationType) → StoresFollow old new → frame.depth < old.stacks.most → IsFrame new made
    → shown new made ≡ record (shown old frame) { stack = word ∷ (shown old frame).stack }
    → (locals : List VerificationType) (unset : Bool) (ws : List VerificationType) → IsStack old frame locals unset ws → IsStack new made locals unset (ws ++ word ∷ [])
stack_more old new frame made word follows room there is locals unset ws before =
    let fits : length ws ≤ old.stacks.most = omega (arith, before.depth, room) in
    let more : length (shown new made).stack ≡ suc (length (shown old frame).stack) = ap (λ (f : TypeFrame). length f.stack) is in
    record {
      depth = omega (arith, depth_is new made, depth_is old frame, more, before.depth, length_push ws word);
      there = λ _. there;
      are = λ _. is ∙ ap (λ (f : TypeFrame). record f { stack = word ∷ f.stack }) (before.are fits) ∙ ap (λ s. type_frame locals s unset) (sym (reverse_push ws word));
    }

pub stack_past : (stores : FrameStores) (frame made : CurrentFrame) (word : VerificationType) → stores.stacks.most ≤ frame.depth → made.depth ≡ frame.depth + 1
    → (locals : List VerificationType) (unset : Bool) (ws : List VerificationType) → IsStack stores frame locals unset ws → IsStack stores made locals unset (ws ++ word ∷ [])
stack_past stores frame made word past depth locals unset ws before = record {
  depth = omega (arith, depth, before.depth, length_push ws word);
  there = λ h. absurd (omega (arith, h, past, before.depth, length_push ws word));
  are = λ h. absurd (omega (arith, h, past, before.depth, length_push ws word));
}

pub chopped : (f : VType → VerificationType) (items : List VerificationType) (types : List VType) (n : ℕ) → items ≡ map f types
    → take (length items - n) items ≡ map f (take (length types - n) types)
chopped f items types n e =
    ap (λ xs. take (length xs - n) xs) e ∙ ap (λ k. take (k - n) (map f types)) (length-map types f) ∙ take-map f (length types - n) types

-- what is put on a stack
pub record Stacking (old : FrameStores) (frame : CurrentFrame) (new : FrameStores) (made : CurrentFrame) (ws : List VerificationType) : Type 0 where
  pub follows : StoresFollow old new
  pub remembered : (h : Hierarchy) → StoresRemember h old → StoresRemember h new
  pub there : IsFrameInRoom new made
  pub words : (locals : List VerificationType) (unset : Bool) → IsStack old frame locals unset [] → IsStack new made locals unset ws

pub stacking_none : (old : FrameStores) (frame : CurrentFrame) → IsFrameInRoom old frame → Stacking old frame old frame []
stacking_none old frame there = record { follows = stores_follow_itself old; remembered = λ h r. r; there = there; words = λ locals unset is. is }

pub stacking_more : (old now new : FrameStores) (frame made next : CurrentFrame) (ws more : List VerificationType) → Stacking old frame now made ws
    → StoresFollow now new → ((h : Hierarchy) → StoresRemember h now → StoresRemember h new) → IsFrameInRoom new next
    → ((locals : List VerificationType) (unset : Bool) (ws : List VerificationType) → IsStack now made locals unset ws → IsStack new next locals unset (ws ++ more))
    → Stacking old frame new next (ws ++ more)
stacking_more old now new frame made next ws more before follows remembered there words = record {
  follows = stores_follow_on old now new before.follows follows;
  remembered = λ h r. remembered h (before.remembered h r);
  there = there;
  words = λ locals unset is. words locals unset ws (before.words locals unset is);
}

pub words_more : (f : VType → VerificationType) (types : List VType) (t : VType) → item_words f (types ++ t ∷ []) ≡ item_words f types ++ in_locals (f t)
words_more f [] t = append_nil (in_locals (f t))
  where
    append_nil : (xs : List VerificationType) → xs ++ [] ≡ xs
    append_nil [] = refl
    append_nil (x ∷ xs) = ap (λ ys. x ∷ ys) (append_nil xs)
words_more f (x ∷ types) t = ap (λ ws. in_locals (f x) ++ ws) (words_more f types t) ∙ sym (append_assoc (in_locals (f x)) (item_words f types) (in_locals (f t)))

pub stacking_types : (old now new : FrameStores) (frame made next : CurrentFrame) (f : VType → VerificationType) (types : List VType) (i : ℕ) (d : VType) (value : VerificationType)
    → i < length types → value ≡ f (get_or types i d) → Stacking old frame now made (item_words f (take i types))
    → StoresFollow now new → ((h : Hierarchy) → StoresRemember h now → StoresRemember h new) → IsFrameInRoom new next
    → ((locals : List VerificationType) (unset : Bool) (ws : List VerificationType) → IsStack now made locals unset ws → IsStack new next locals unset (ws ++ in_locals value))
    → Stacking old frame new next (item_words f (take (i + 1) types))
stacking_types old now new frame made next f types i d value inside is before follows remembered there words =
    subst (λ ws. Stacking old frame new next ws)
    (ap (λ v. item_words f (take i types) ++ in_locals v) is ∙ sym (words_more f (take i types) (get_or types i d)) ∙ ap (item_words f) (sym (take_more types i d inside)))
    (stacking_more old now new frame made next (item_words f (take i types)) (in_locals value) before follows remembered there words)

-- ---- a stack of one word

some_word : (v : VerificationType) → 0 < length (in_locals v)
some_word Top = omega arith
some_word Int = omega arith
some_word Float = omega arith
some_word Long = omega arith
some_word Double = omega arith
some_word Second = omega arith
some_word Null = omega arith
some_word UninitThis = omega arith
some_word (Uninit p) = omega arith
some_word (Object t) = omega arith

more_words : (ws : List VerificationType) → 1 < length ws → only_word ws ≡ None
more_words [] h = absurd (omega (arith, h))
more_words (w ∷ []) h = absurd (omega (arith, h))
more_words (w ∷ v ∷ ws) h = refl

pub only_of_others : (f : VType → VerificationType) (types : List VType) → length types ≢ 1 → only_word (reverse (item_words f types)) ≡ None
only_of_others f [] other = refl
only_of_others f (t ∷ []) other = absurd (other refl)
only_of_others f (t ∷ u ∷ types) other =
    let size = length-reverse (item_words f (t ∷ u ∷ types)) in
    let first = length-append (in_locals (f t)) (item_words f (u ∷ types)) in
    let second = length-append (in_locals (f u)) (item_words f types) in
    more_words (reverse (item_words f (t ∷ u ∷ types))) (omega (arith, size, first, second, some_word (f t), some_word (f u)))

-- one value more is put
pub pushed_value : (first items new values : List VerificationType) (i : ℕ) (d : VerificationType) → items ≡ first ++ take i values → new ≡ items ++ get_or values i d ∷ []
    → i < length values → new ≡ first ++ take (i + 1) values
pushed_value first items new values i d are is below =
    is ∙ (ap (λ (l : List VerificationType). l ++ get_or values i d ∷ []) are
    ∙ (append_assoc first (take i values) (get_or values i d ∷ []) ∙ ap (λ (l : List VerificationType). first ++ l) (sym (take_more values i d below))))

-- .. or what one item more of a table stands for
pub pushed_type : (f : VType → VerificationType) (first items new : List VerificationType) (types : List VType) (i : ℕ) (d : VType) (item : VerificationType)
    → items ≡ first ++ map f (take i types) → new ≡ items ++ item ∷ [] → item ≡ f (get_or types i d) → i < length types → new ≡ first ++ map f (take (i + 1) types)
pushed_type f first items new types i d item are is stands below =
    let one : map f (take (i + 1) types) ≡ map f (take i types) ++ f (get_or types i d) ∷ [] = ap (λ (l : List VType). map f l) (take_more types i d below) ∙ map-append f (take i types) (get_or types i d ∷ []) in
    is ∙ (ap (λ (l : List VerificationType). l ++ item ∷ []) are
    ∙ (append_assoc first (map f (take i types)) (item ∷ []) ∙ (ap (λ (w : VerificationType). first ++ (map f (take i types) ++ w ∷ [])) stands ∙ ap (λ (l : List VerificationType). first ++ l) (sym one))))
