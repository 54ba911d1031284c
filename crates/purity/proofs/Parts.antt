-- A node's parts by its numbers, as the crate above uses them too.
-- Assumes nothing.
use mathlib.Core.List.{List}
use mathlib.Core.Path.{◌≡◌, refl, ap, ap₂, sym, subst, ◌∙◌}
use Prim.Native.Nat.{ℕ}
use native.Mathlib.Omega.{arith}
use Rattle.spec.specs.Rose.{Rose, Roses, nil, cons, sizes, At, Ats, parts_of}
use Rattle.spec.specs.Rose.{count as countR}
use Rattle.spec.specs.Grammar.{part_count, Valid}
use Rattle.spec.specs.Views.{word_in}
use Rattle.spec.proofs.Views.{words_parts}
use Rattle.spec.specs.declared.Sort.TheVariants as sort
use Rattle.ir.specs.Standing.{Shape, NodeOf}
use Rattle.ir.proofs.Forests.{at_parts}

pub no_parts : (ps : Roses) → countR ps ≡ 0 → sizes ps ≡ 0
no_parts nil e = refl
no_parts (cons p ps) e = absurd (omega arith)

module _ {ws : List ℕ} {at k d w first n : ℕ} (o : NodeOf ws at k d w first n) (r : Rose) (v : Valid sort.Expr r)
    (a : At ws at r) where
  pub shape : Shape r at k d w first n
  shape = o.of sort.Expr r refl v a

  pub parts_by : countR (parts_of r) ≡ part_count k d w
  parts_by =
      words_parts r v
      ∙ ap₂ (λ (x y : ℕ). part_count x y (word_in r 1)) (sym shape.is_kind) (sym shape.is_detail)
      ∙ ap (part_count k d) (sym shape.is_word)

  pub parts_at : Ats ws first (parts_of r)
  parts_at = subst (λ (i : ℕ). Ats ws i (parts_of r)) (sym shape.is_first) (at_parts ws at r a)
