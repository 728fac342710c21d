-- The lines of a body, from the first to the end.
use Rattle.std.proofs.Common.{◌≡◌, ℕ, ◌<◌, Bool, true, false, cond, List, [], ◌∷◌, ◌++◌, length, Option, Some, None, Result, Ok, refl, sym, ap, subst, ◌∙◌, arith}
use Rattle.std.specs.List.{AllByRecursion}
use Rattle.class_walk.specs.declared.class.Constant.{Constant}
use Rattle.assembler_text.specs.declared.lines.Numbered.{Numbered}
use Rattle.assembler_bodies.specs.Making.{with_pool, next_of}
use Rattle.assembler_bodies.specs.Labels.{is_end}
use Rattle.assembler_bodies.specs.Body as bodies
use Rattle.assembler_bodies.specs.Body.{MadeBody, steps}
use Rattle.assembler_bodies.proofs.ShapeLaws.{parts_of}
use Rattle.class_make.specs.Assembly.{goes_on, assembled_from}
use Rattle.class_make.specs.Class.{MadeClass, OpenMethod, State, outside, inside, stays_outside, stays_inside, closed, body_step, inside_line}
use Rattle.assembler_laws.specs.BodyMeaning.Parts.{IsSaidAt}
use Rattle.assembler_laws.specs.ClassMeaning.Parts.{before_end}
use Rattle.assembler_laws.proofs.ClassMeaning.SaidLaws.{MayBeSaid, MayBeSaidAt, SayTheSame, same_behind, same_further, end_says, body_says, body_said}

-- a line that was taken, and what the others gave
pub record Went (o : Option (List Constant × State)) (next : List Constant → State → Result (List ℕ) ℕ) (bytes : List ℕ) : Type 0 where
  pub x : List Constant × State
  pub first_is : o ≡ Some x
  pub next_is : next x.0 x.1 ≡ Ok bytes

pub went : (number : ℕ) (o : Option (List Constant × State)) (next : List Constant → State → Result (List ℕ) ℕ) (bytes : List ℕ) → goes_on number o next ≡ Ok bytes → Went o next bytes
went number None next bytes e = absurd cc
went number (Some x) next bytes e = record { x = x; first_is = refl; next_is = e }

-- the state and the pool that are known
pub known_of : {A : Type 0} (pool : List Constant) (a : A) (x : List Constant × A) → with_pool pool (Some a) ≡ Some x → (pool, a) ≡ x
known_of pool a x e = cc

-- the body as it is made at its end, the class after it, and the lines after the end
pub record Leaves (behind : ℕ) (lines : List Numbered) (pool : List Constant) (class : MadeClass) (method : OpenMethod) (bytes : List ℕ) : Type 0 where
  pub end : Numbered
  pub rest : List Numbered
  pub split : lines ≡ before_end lines ++ end ∷ rest
  pub ends : is_end end.line ≡ true
  pub after : List Constant
  pub body : MadeBody
  pub made : steps method.marks (before_end lines) method.body pool ≡ Some (after, body)
  pub next : List Constant × MadeClass
  pub closed_is : closed (record method { body = body }) class after ≡ Some next
  pub goes : assembled_from behind rest next.0 (outside next.1) ≡ Ok bytes
  pub said : AllByRecursion IsSaidAt (before_end lines)
  pub rest_said : AllByRecursion MayBeSaidAt rest
  pub same : SayTheSame lines rest
  pub shorter : length rest < length lines

module _ (behind : ℕ) (n : Numbered) (lines : List Numbered) (pool : List Constant) (class : MadeClass) (method : OpenMethod) (bytes : List ℕ) where
  at_end : (x : List Constant × State) → AllByRecursion MayBeSaidAt lines → is_end n.line ≡ true → stays_outside (closed method class) pool ≡ Some x → assembled_from behind lines x.0 x.1 ≡ Ok bytes
      → Leaves behind (n ∷ lines) pool class method bytes
  at_end x said is e goes =
      let p = parts_of (closed method class pool) _ x e in
      let known : (p.made.0, outside p.made.1) ≡ x = known_of p.made.0 (outside p.made.1) x p.next_is in
      let going : assembled_from behind lines p.made.0 (outside p.made.1) ≡ Ok bytes =
      ap (λ (y : List Constant × State). assembled_from behind lines y.0 y.1) known ∙ goes in
      record {
        end = n;
        rest = lines;
        split = rw is refl;
        ends = is;
        after = pool;
        body = method.body;
        made = rw is refl;
        next = p.made;
        closed_is = p.first_is;
        goes = going;
        said = rw is tt;
        rest_said = said;
        same = same_behind n lines (end_says n.line is);
        shorter = omega arith;
      }

  -- one line more
  in_body : (pool1 : List Constant) (made : MadeBody) → MayBeSaid n.line → is_end n.line ≡ false → bodies.step method.marks n method.body pool ≡ Some (pool1, made)
      → Leaves behind lines pool1 class (record method { body = made }) bytes → Leaves behind (n ∷ lines) pool class method bytes
  in_body pool1 made said is stepped l =
      let front : before_end (n ∷ lines) ≡ n ∷ before_end lines = rw is refl in
      let Said : List Numbered → Type 0 = λ list. AllByRecursion IsSaidAt list in
      let here = body_said method.marks n.number n.line method.body pool (pool1, made) stepped said in
      let one : steps method.marks (n ∷ before_end lines) method.body pool ≡ steps method.marks (before_end lines) made pool1 =
      ap (λ (o : Option (List Constant × MadeBody)). next_of o (λ b. steps method.marks (before_end lines) b)) stepped in
      record {
        end = l.end;
        rest = l.rest;
        split = ap (λ (list : List Numbered). n ∷ list) l.split ∙ ap (λ (list : List Numbered). list ++ l.end ∷ l.rest) (sym front);
        ends = l.ends;
        after = l.after;
        body = l.body;
        made = ap (λ (list : List Numbered). steps method.marks list method.body pool) front ∙ one ∙ l.made;
        next = l.next;
        closed_is = l.closed_is;
        goes = l.goes;
        said = subst Said (sym front) (here, l.said);
        rest_said = l.rest_said;
        same = same_further (n ∷ lines) lines l.rest (same_behind n lines (body_says method.marks n.number n.line method.body pool (pool1, made) stepped)) l.same;
        shorter = omega (arith, l.shorter);
      }

  abbrev Goes : List Constant → OpenMethod → Type 0
  Goes p m = assembled_from behind lines p (inside class m) ≡ Ok bytes → Leaves behind lines p class m bytes

  not_at_end : (x : List Constant × State) → MayBeSaid n.line → ((p : List Constant) (m : OpenMethod) → Goes p m) → is_end n.line ≡ false → stays_inside class (body_step n method) pool ≡ Some x
      → assembled_from behind lines x.0 x.1 ≡ Ok bytes → Leaves behind (n ∷ lines) pool class method bytes
  unfolding body_step
  not_at_end x said others is e goes =
      let q = parts_of (body_step n method pool) _ x e in
      let r = parts_of (bodies.step method.marks n method.body pool) _ q.made q.first_is in
      let known_method : (r.made.0, record method { body = r.made.1 }) ≡ q.made = known_of r.made.0 (record method { body = r.made.1 }) q.made r.next_is in
      let known : (q.made.0, inside class q.made.1) ≡ x = known_of q.made.0 (inside class q.made.1) x q.next_is in
      let going : assembled_from behind lines r.made.0 (inside class (record method { body = r.made.1 })) ≡ Ok bytes =
      ap (λ (y : List Constant × OpenMethod). assembled_from behind lines y.0 (inside class y.1)) known_method
      ∙ ap (λ (y : List Constant × State). assembled_from behind lines y.0 y.1) known
      ∙ goes in
      in_body r.made.0 r.made.1 said is r.first_is (others r.made.0 (record method { body = r.made.1 }) going)

  by_end : (b : Bool) (x : List Constant × State) → AllByRecursion MayBeSaidAt (n ∷ lines) → ((p : List Constant) (m : OpenMethod) → Goes p m) → is_end n.line ≡ b
      → cond b (stays_outside (closed method class)) (stays_inside class (body_step n method)) pool ≡ Some x → assembled_from behind lines x.0 x.1 ≡ Ok bytes
      → Leaves behind (n ∷ lines) pool class method bytes
  by_end true x said others is e goes = at_end x said.1 is e goes
  by_end false x said others is e goes = not_at_end x said.0 others is e goes

pub leaves : (behind : ℕ) (lines : List Numbered) (pool : List Constant) (class : MadeClass) (method : OpenMethod) (bytes : List ℕ) → AllByRecursion MayBeSaidAt lines
    → assembled_from behind lines pool (inside class method) ≡ Ok bytes → Leaves behind lines pool class method bytes
leaves behind [] pool class method bytes said e = absurd cc
leaves behind (n ∷ lines) pool class method bytes said e =
    let w = went n.number (inside_line n class method pool) (λ p s. assembled_from behind lines p s) bytes e in
    by_end behind n lines pool class method bytes (is_end n.line) w.x said (λ p m goes. leaves behind lines p class m bytes said.1 goes) refl w.first_is w.next_is
