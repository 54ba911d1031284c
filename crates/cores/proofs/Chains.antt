-- What `part_of` and `core_at` tell, of whatever expression stands there.
-- Assumes nothing.
use mathlib.Core.List.{List}
use mathlib.Core.Path.{◌≡◌, refl, sym, subst, ◌∙◌}
use Prim.Native.Nat.{ℕ, ◌+◌, ◌≤◌, ◌<◌}
use native.Mathlib.Omega.{arith}
use lib.ListN.{length}
use Rattle.spec.specs.Rose.{Rose, size, At}
use Rattle.spec.specs.Grammar.{Valid}
use Rattle.spec.specs.Tree.{Expr, fresh, Exprs, no_exprs, more_exprs, count_e, rose_e}
use Rattle.spec.specs.Meaning.{expr_of}
use Rattle.spec.specs.Pass.{nodes_of}
use Rattle.spec.specs.PassStmts.{is_terminal, join_stmts, extend, part_stmts, expr_step}
use Rattle.spec.specs.declared.Sort.TheVariants as sort
use Rattle.spec.proofs.Meanings.{rose_expr, proper_expr}
use Rattle.spec.proofs.Passed.{valid_parts, one_part}
use Rattle.ir.specs.Standing.{SomeExpr}
use Rattle.expr_forms.specs.Made.{Is}
use Rattle.stmt.specs.Made.{WayOf, parts, part, WayAsk, WayDone}
use Rattle.stmt.specs.declared.Way.{Way}
use Rattle.stmt.specs.declared.Way.TheVariants as way
use Rattle.cores.specs.Cores.{CoreOf, CoreDone, PartDone}
use Rattle.cores.proofs.Handing.{handed}

-- ---- the expression of some tree

module _ {w : List ℕ} {at : ℕ} (x : SomeExpr w at) where
  rose_is : rose_e (expr_of x.tree) ≡ x.tree
  rose_is = rose_expr x.tree x.valid

  some_is : Is w at (at + size x.tree) (expr_of x.tree)
  some_is = subst (λ (r : Rose). Is w at (at + size r) (expr_of x.tree)) rose_is (record {
    valid = (proper_expr x.tree x.valid, subst (Valid sort.Expr) (sym rose_is) x.valid);
    here = subst (At w at) (sym rose_is) x.here;
    ends = refl;
  })

  pub some_ask : WayAsk w at
  some_ask = record {
    tree = expr_of x.tree;
    stands = record { valid = some_is.valid; here = some_is.here };
    inside = omega (arith, some_is.ends, x.inside);
  }

-- ---- part_of

-- a part that has the statements, by the way that was found
part_core : {w : List ℕ} {at end place : ℕ} {e : Expr} → Is w at end e → WayOf w at e (way.Part place)
    → (at < place) × CoreOf w at end place e
part_core i (part e x place p) = (
  p.past,
  record {
    core = x;
    is = record { valid = p.stands.valid; here = p.stands.here; ends = omega (arith, p.ends, i.ends) };
    order = omega (arith, p.past);
    lighter = p.lighter;
    same = sym (handed e x p.step);
  },
)

-- the only part of a tuple or list
only_way : {w : List ℕ} {at end place n : ℕ} {e : Expr} → Is w at end e → n ≡ 1 → WayOf w at e (way.Parts place n)
    → WayOf w at e (way.Part place)
unfolding is_terminal join_stmts extend part_stmts expr_step nodes_of
only_way {w} {at} {end} i one (parts f es first n begins many) = go es i (sym many ∙ one)
  where
    go : (es : Exprs) → Is w at end (fresh f es) → count_e es ≡ 1 → WayOf w at (fresh f es) (way.Part first)
    go no_exprs i m = absurd (omega (arith, m))
    go (more_exprs x (more_exprs y es)) i m = absurd (omega (arith, m))
    go (more_exprs x no_exprs) i m = part (fresh f (more_exprs x no_exprs)) x first (record {
      step = λ more moreIf. refl;
      stands = record {
        valid = one_part x (valid_parts (fresh f (more_exprs x no_exprs)) i.valid);
        here = subst (λ (j : ℕ). At w j (rose_e x)) (sym begins) i.here.1.0;
      };
      past = omega (arith, begins);
      ends = omega (arith, begins);
      fewer = omega arith;
      lighter = omega arith;
    })

module _ {w : List ℕ} {at : ℕ} where
  way_of : {r : Way} → WayDone w at r → {end : ℕ} {e : Expr} → Is w at end e → end ≤ length w → WayOf w at e r
  way_of d {end} {e} i l =
      d.right e (record { valid = i.valid; here = i.here }) (omega (arith, i.ends, l))

  pub part_told : {place : ℕ} → WayDone w at (way.Part place) → PartDone w at place
  part_told d = record { of = λ end e i l. part_core i (way_of d i l) }

  pub only_told : {first n : ℕ} → WayDone w at (way.Parts first n) → n ≡ 1 → PartDone w at first
  only_told d one = record { of = λ end e i l. part_core i (only_way i one (way_of d i l)) }

-- what the check applies in `part_of`
pub ruleset part_kinds = (some_ask, only_told, part_told)

-- ---- core_at

module _ {w : List ℕ} {at core : ℕ} (a : CoreDone w at core) where
  module _ (x : SomeExpr w at) where
    cored : CoreOf w at (at + size x.tree) core (expr_of x.tree)
    cored = a.of (at + size x.tree) (expr_of x.tree) (some_is x) x.inside

    pub core_some : SomeExpr w core
    core_some = record {
      tree = rose_e cored.core;
      valid = cored.is.valid.1;
      here = cored.is.here;
      inside = omega (arith, cored.is.ends, x.inside);
    }

  module _ {part : ℕ} (p : PartDone w core part) where
    pub core_on : CoreDone w at part
    core_on = record {
      of = λ end e i l.
          let c = a.of end e i l in
          let d = (p.of end c.core c.is l).1 in
          record {
            core = d.core;
            is = d.is;
            order = omega (arith, c.order, d.order);
            lighter = omega (arith, c.lighter, d.lighter);
            same = d.same ∙ c.same;
          };
    }

    pub core_falls : SomeExpr w at → (core < part) × (part ≤ length w)
    core_falls x =
        let c = cored x in
        let d = p.of (at + size x.tree) c.core c.is x.inside in
        (d.0, omega (arith, d.1.is.ends, x.inside))

-- what the check applies in `core_at`
pub ruleset cores = (core_some, core_on, core_falls)
