use Rattle.std.proofs.Common.{inl, inr}
use Rattle.std.proofs.lemmas.Result.{err_from_is_err_and}
use Rattle.class_read.specs.ClassFile.{AreMembersOf}
use Rattle.class_read.specs.ClassRules.{member_rules, header_rules}
use Rattle.class_pool.specs.PoolRules.{pool_rules}
use Rattle.class_pool.proofs.RuleLaws.{gives_behind}
use Rattle.class_read.proofs.read.checked_members.Goals as goal

pub returns-in_err-check_header : goal.returns-in_err-check_header
returns-in_err-check_header c =
    let p = err_from_is_err_and c.from_residual-in_err-check_header.result c.from_residual-in_err-check_header.ensures.1 in
    rw (p.1, p.2) (inr (inr (c.in_ok-check_pool.ensures, inl (rw c.in_ok-pool.ensures at c.in_err-check_header.ensures))))

pub returns : goal.returns
returns c =
    let pool = c.args.constants.now in
    let class = c.args.class.now in
    gives_behind (pool_rules pool) _ (AreMembersOf pool class) c.kept_members.result c.in_ok-check_pool.ensures
    (gives_behind (header_rules pool class) (member_rules pool class) (AreMembersOf pool class) c.kept_members.result (rw c.in_ok-pool.ensures at c.in_ok-check_header.ensures) (rw c.in_ok-pool.ensures at c.kept_members.ensures))
