-- Lists that are not `Listed`: one lacks an expression, one has an expression twice, one has another beside them, and
-- one has those of one node for two.
-- Assumes nothing.
use Rattle.std.proofs.Common.{true, false, [], ◌∷◌, refl, arith}
use mathlib.Core.Logic.{inl, inr}
use Rattle.std.proofs.lemmas.Bool.{false≢true}
use Rattle.spec.specs.Tree
use Rattle.spec.specs.Tree.{Expr, boolean, const, read, local}
use Rattle.spec.specs.Pass.{nodes_of}
use Rattle.counting.specs.Formulas.{built, Listed, leaves}
use Rattle.counting.proofs.Places.{In, in_at}

no_local : In (read (local 0)) (const (boolean true) ∷ const (boolean false) ∷ []) → ⊥
no_local (inl e) = cc
no_local (inr (inl e)) = cc
no_local (inr (inr none)) = none

one_lacking : Listed 1 (const (boolean true) ∷ const (boolean false) ∷ []) → ⊥
unfolding built nodes_of
one_lacking l =
    let once = l.every (read (local 0)) (record { from_these = refl; exactly = refl }) in
    no_local (in_at _ (const (boolean true) ∷ const (boolean false) ∷ []) once.place once.stands)

one_twice : Listed 1 (const (boolean true) ∷ leaves) → ⊥
unfolding built nodes_of
one_twice l =
    let once = l.every (const (boolean true)) (record { from_these = refl; exactly = refl }) in
    omega (arith, once.nowhere_else 0 refl, once.nowhere_else 1 refl)

one_more : Listed 1 (const Tree.none ∷ leaves) → ⊥
unfolding built
one_more l = false≢true (l.no_other (const Tree.none) 0 refl).from_these

one_node_off : Listed 2 leaves → ⊥
unfolding nodes_of
one_node_off l = omega (arith, (l.no_other (const (boolean true)) 0 refl).exactly)
