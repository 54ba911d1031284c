-- A rule that is accepted, whose pruned form is too deep to be read. Nothing is dead in that either (document 02, 2.7).
-- Assumes nothing.
use mathlib.Core.Bool.{true, false}
use mathlib.Core.Path.{◌≡◌, refl, ap}
use Prim.Native.Nat.{ℕ, zero, suc}
use native.Mathlib.Omega.{arith}
use Rattle.spec.specs.Outcome.{given}
use Rattle.spec.specs.Rose.{size, enc, depth}
use Rattle.spec.specs.Tree.{Expr, if_then, seq, return, expr, Stmts, no_stmts, rose_l}
use Rattle.spec.specs.Proper.{ValidExpr, ValidRule}
use Rattle.spec.specs.Meaning.{read_rule}
use Rattle.spec.specs.PassStmts.{optimize}
use Rattle.spec.specs.NothingDead.{nothing_dead}
use Rattle.spec.specs.Cases.{a_local, a_true, single, double}
use Rattle.spec.proofs.Places.{length_enc, at_enc}
use Rattle.spec.proofs.Trees.{rule_stands, rule_read, rule_unique}
use Rattle.spec.proofs.Passed.{bool_valid, if_node, seq_node}
use Rattle.spec.proofs.PassedStmts.{return_node, expr_node, none_valid, more_valid, rule_passed}
use Rattle.spec.proofs.Computing.{computing_cases}

-- n Ifs, each over the one before, with the same as its first arm; the innermost is Seq(L,True). The pass makes a chain
-- of 2^n Seqs of it.
abbrev joined : ℕ → Expr
joined zero = seq a_local a_true
joined (suc n) = if_then (joined n) (joined n) a_local

-- a statement stands behind the Return
abbrev rule : Stmts
rule = double (return (joined 8)) (expr a_true)

dead : nothing_dead rule ≡ false
unfolding computing_cases
dead = refl

-- ---- it is read

local_valid : ValidExpr a_local
local_valid = (tt, (refl, record { head = refl; ruled = (refl, tt); many = refl }, tt))

joined_valid : (n : ℕ) → ValidExpr (joined n)
joined_valid zero = seq_node a_local a_true local_valid (bool_valid true)
joined_valid (suc n) = if_node (joined n) (joined n) a_local (joined_valid n) (joined_valid n) local_valid

rule_valid : ValidRule rule
rule_valid =
    more_valid (return (joined 8)) (single (expr a_true)) (return_node (joined 8) (joined_valid 8))
    (more_valid (expr a_true) no_stmts (expr_node a_true (bool_valid true)) none_valid)

levels : depth (rose_l rule) ≡ 11
levels = refl

words : size (rose_l rule) ≡ 2050
words = refl

is_read : read_rule (enc (rose_l rule)) ≡ given rule
is_read = rule_read rule rule_valid (omega (arith, levels)) (omega (arith, words))

-- ---- its pruned form is not: there is a chain of 256 Seqs in the Return

pruned_levels : depth (rose_l (optimize rule)) ≡ 258
unfolding computing_cases
pruned_levels = refl

not_read : (ss : Stmts) → read_rule (enc (rose_l (optimize rule))) ≡ given ss → ⊥
not_read ss e =
    let p = rose_l (optimize rule) in
    let f = rule_stands (enc p) ss e in
    let same =
    rule_unique (enc p) 0 ss (optimize rule) f.valid (rule_passed rule rule_valid) f.here (at_enc p)
    (omega (arith, f.whole)) (omega (arith, length_enc p)) in
    omega (arith, f.deep, ap (λ rs. depth (rose_l rs)) same, pruned_levels)

none_dead : nothing_dead (optimize rule) ≡ true
unfolding computing_cases
none_dead = refl
