use Rattle.std.proofs.Common.{◌≡◌, ◌+◌, ◌++◌, ◌∷◌, [], ℕ, List, cond, bytes_eq, map, length, sym, ◌∙◌, ap, arith}
use Rattle.std.proofs.lemmas.List.{length-map, map-append}
use Rattle.text_numbers.specs.Numbers.{number_of}
use Rattle.text_numbers.proofs.NumberLaws.{number_more, number_last, itself}
use Rattle.text_numbers.proofs.add_new.Goals as goal

pub returns-in-Ok-clause-numbers : goal.returns-in-Ok-clause-numbers
returns-in-Ok-clause-numbers c =
    let texts = c.args.texts.now.items in
    let t = c.args.text.now in
    let old : List (List ℕ) = map (λ t. t.now) texts in
    let more : map (λ t. t.now) c.push.new.self.items ≡ map (λ t. t.now) texts ++ t ∷ [] = ap (map (λ t. t.now)) c.in_ok-push.ensures.items ∙ map-append (λ t. t.now) texts (c.args.text ∷ []) in
    let count : c.len-count.result + 1 ≡ length old + 1 = omega (arith, length-map texts (λ t. t.now)) in
    record {
      is = λ q. c.in-Ok.ensures.ok q
          ∙ ap (λ n. cond (bytes_eq t q) (c.len-count.result + 1) n) (c.requires.numbers.is q)
          ∙ number_more old t (c.len-count.result + 1) q c.requires.new count
          ∙ ap (λ ts. number_of ts q) (sym more);
    }

pub returns-in-Ok-clause-number : goal.returns-in-Ok-clause-number
returns-in-Ok-clause-number c =
    let texts = c.args.texts.now.items in
    let t = c.args.text.now in
    let old : List (List ℕ) = map (λ t. t.now) texts in
    let more : map (λ t. t.now) c.push.new.self.items ≡ map (λ t. t.now) texts ++ t ∷ [] = ap (map (λ t. t.now)) c.in_ok-push.ensures.items ∙ map-append (λ t. t.now) texts (c.args.text ∷ []) in
    let last : number_of (old ++ t ∷ []) t ≡ length old + 1 = number_last old t t c.requires.new (itself t) ∙ (omega arith) in
    let count : c.len-count.result + 1 ≡ length old + 1 = omega (arith, length-map texts (λ t. t.now)) in
    count ∙ sym last ∙ ap (λ ts. number_of ts t) (sym more)
