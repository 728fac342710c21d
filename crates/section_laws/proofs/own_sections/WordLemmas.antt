-- What the changes of a section's word say.
use Rattle.std.proofs.Common.{◌≡◌, ℕ, ◌+◌, ◌-◌, ◌^◌, ◌%◌, ◌<◌, ◌≤◌, true, false, sym, ◌∙◌, subst, arith}
use Rattle.std.specs.Prelude.{nat_le, if◌then◌else◌}
use Rattle.std.proofs.lemmas.Grind.{common_steps}
use Rattle.std.proofs.lemmas.Bool.Decides.{nat_tests}
use Rattle.section_state.specs.SectionWord.{section_word, state_of, owner_of, priority_of, pinned_of, depth_of, revoke_of, with_state, with_pinned, with_depth, with_revoke}
use Rattle.section_state.specs.Laws.{ChangedTo, PartsArePacked, WordsAreTheirParts, PinsAreDeeper, LevelsAreOpened, LevelsAreClosed, LevelsAreRevoked, SectionsAreCommitted, SectionsAreUndone, SectionsGoOn}

pub packed : PartsArePacked
unfolding section_word state_of owner_of priority_of pinned_of depth_of revoke_of
packed s o p n d r s_low o_low p_low n_low d_low r_low = (
  omega (arith, s_low),
  omega (arith, s_low, o_low),
  omega (arith, s_low, o_low, p_low),
  omega (arith, s_low, o_low, p_low, n_low),
  omega (arith, s_low, o_low, p_low, n_low, d_low),
  omega (arith, s_low, o_low, p_low, n_low, d_low, r_low),
)

pub small_packed : (s o p n d r : ℕ) → s < 2 ^ 8 → o < 2 ^ 8 → p < 2 ^ 8 → n < 2 ^ 8 → d < 2 ^ 8 → r < 2 ^ 8 → section_word s o p n d r < 2 ^ 48
unfolding section_word
small_packed s o p n d r s_low o_low p_low n_low d_low r_low = omega (arith, s_low, o_low, p_low, n_low, d_low, r_low)

pub by_parts : WordsAreTheirParts
unfolding section_word state_of owner_of priority_of pinned_of depth_of revoke_of
by_parts word low = omega (arith, low)

-- each part has 8 bits
pub state_low : (w : ℕ) → state_of w < 2 ^ 8
unfolding state_of
state_low w = omega arith

pub pinned_low : (w : ℕ) → pinned_of w < 2 ^ 8
unfolding pinned_of
pinned_low w = omega arith

pub depth_low : (w : ℕ) → depth_of w < 2 ^ 8
unfolding depth_of
depth_low w = omega arith

pub revoke_low : (w : ℕ) → revoke_of w < 2 ^ 8
unfolding revoke_of
revoke_low w = omega arith

pub pinned_says : PinsAreDeeper
unfolding with_pinned state_of owner_of priority_of pinned_of depth_of revoke_of
pinned_says w n low = (λ small. omega (arith, small, low), (omega (arith, low), omega (arith, low), omega (arith, low), omega (arith, low), omega (arith, low), omega (arith, low)))

pub deep_says : LevelsAreClosed
unfolding with_depth state_of owner_of priority_of pinned_of depth_of revoke_of
deep_says w n low = (λ small. omega (arith, small, low), (omega (arith, low), omega (arith, low), omega (arith, low), omega (arith, low), omega (arith, low), omega (arith, low)))

state_says : (w n : ℕ) → n < 2 ^ 8 → ChangedTo w (with_state w n) n (pinned_of w) (depth_of w) (revoke_of w)
unfolding with_state state_of owner_of priority_of pinned_of depth_of revoke_of
state_says w n low = (λ small. omega (arith, small, low), (omega (arith, low), omega (arith, low), omega (arith, low), omega (arith, low), omega (arith, low), omega (arith, low)))

turned_says : (w n : ℕ) → n < 2 ^ 8 → ChangedTo w (with_revoke w n) (state_of w) (pinned_of w) (depth_of w) n
unfolding with_revoke state_of owner_of priority_of pinned_of depth_of revoke_of
turned_says w n low = (λ small. omega (arith, small, low), (omega (arith, low), omega (arith, low), omega (arith, low), omega (arith, low), omega (arith, low), omega (arith, low)))

next_depth : (d : ℕ) → d < 255 → (d + 1) % 2 ^ 8 ≡ d + 1
next_depth d below = omega (arith, below)

remains : (n : ℕ) → n % 2 ^ 8 < 2 ^ 8
remains n = omega arith

pub opened_says : LevelsAreOpened
opened_says w below =
    let d = deep_says w ((depth_of w + 1) % 2 ^ 8) (remains (depth_of w + 1)) in
    (d.0, (d.1.0, d.1.1, d.1.2, d.1.3, d.1.4 ∙ next_depth (depth_of w) below, d.1.5))

pub revoked_says : LevelsAreRevoked
revoked_says w n low =
    let a = state_says w 3 (omega arith) in
    let z = turned_says (with_state w 3) n low in
    (λ small. z.0 (a.0 small), (z.1.0 ∙ a.1.0, z.1.1 ∙ a.1.1, z.1.2 ∙ a.1.2, z.1.3 ∙ a.1.3, z.1.4 ∙ a.1.4, z.1.5))

pub committed_says : SectionsAreCommitted
committed_says w = state_says w 5 (omega arith)

turned_back : (w : ℕ) → ChangedTo w (with_revoke (with_state w 4) 0) 4 (pinned_of w) (depth_of w) 0
turned_back w =
    let a = state_says w 4 (omega arith) in
    let z = turned_says (with_state w 4) 0 (omega arith) in
    (λ small. z.0 (a.0 small), (z.1.0 ∙ a.1.0, z.1.1 ∙ a.1.1, z.1.2 ∙ a.1.2, z.1.3 ∙ a.1.3, z.1.4 ∙ a.1.4, z.1.5))

gone_on : (w d : ℕ) → d < 2 ^ 8 → ChangedTo w (with_revoke (with_depth (with_state w 1) d) 0) 1 (pinned_of w) d 0
gone_on w d low =
    let a = state_says w 1 (omega arith) in
    let m = deep_says (with_state w 1) d low in
    let z = turned_says (with_depth (with_state w 1) d) 0 (omega arith) in
    (λ small. z.0 (m.0 (a.0 small)), (z.1.0 ∙ m.1.0 ∙ a.1.0, z.1.1 ∙ m.1.1 ∙ a.1.1, z.1.2 ∙ m.1.2 ∙ a.1.2, z.1.3 ∙ m.1.3 ∙ a.1.3, z.1.4 ∙ m.1.4, z.1.5))

at_most : (m n : ℕ) → m ≤ n → nat_le m n ≡ true
at_most m n is = grind (arith, common_steps, nat_tests)

more : (m n : ℕ) → n < m → nat_le m n ≡ false
more m n is = grind (arith, common_steps, nat_tests)

pub undone_says : SectionsAreUndone
undone_says w low = subst (λ t. ChangedTo w (with_revoke (if t then with_state w 4 else with_depth (with_state w 1) (revoke_of w - 1)) 0) 4 (pinned_of w) (depth_of w) 0)
    (sym (at_most (revoke_of w) 1 low)) (turned_back w)

one_less : (r : ℕ) → r < 2 ^ 8 → r - 1 < 2 ^ 8
one_less r low = omega (arith, low)

pub goes_on_says : SectionsGoOn
goes_on_says w some = subst (λ t. ChangedTo w (with_revoke (if t then with_state w 4 else with_depth (with_state w 1) (revoke_of w - 1)) 0) 1 (pinned_of w) (revoke_of w - 1) 0)
    (sym (more (revoke_of w) 1 some)) (gone_on w (revoke_of w - 1) (one_less (revoke_of w) (revoke_low w)))
