-- Statements one behind the other: what the pass makes of two lists and how many foldable places it meets, and what
-- stands where.
-- Assumes nothing.
use mathlib.Core.Bool.{Bool, true, false, cond}
use mathlib.Core.List.{List}
use mathlib.Core.Path.{◌≡◌, refl, sym, subst, ◌∙◌}
use Prim.Native.Nat.{ℕ, suc, ◌+◌, ◌≤◌}
use native.Mathlib.Omega.{arith}
use Rattle.spec.specs.Rose.{Ats, depths}
use Rattle.spec.specs.Grammar.{Valids}
use Rattle.spec.specs.Tree.{Stmt, Stmts, no_stmts, more_stmts, roses_s}
use Rattle.spec.specs.Proper.{ProperStmts}
use Rattle.spec.specs.PassStmts.{one, is_terminal, join_stmts, extend, optimize_stmt, optimize_behind}
use Rattle.spec.specs.Foldable.{foldable_stmt, foldable_behind}
use Rattle.spec.specs.declared.Sort.TheVariants as sort
use Rattle.spec.proofs.Passed.{valids_from}
use Rattle.buffer.specs.Copy.{Same}
use Rattle.buffer.proofs.Frames.{same_ats}
use Rattle.runs.proofs.Rows.{join_row, join_at}
use Rattle.pass.proofs.Rows.{behind_exit, places_exit, behind_more, places_more}
use Rattle.outer.specs.Outer.{Stands, Listed}

-- ---- the pass

pub join_from : (ss rs before : Stmts)
    → optimize_behind (join_stmts ss rs) before ≡ optimize_behind rs (optimize_behind ss before)
unfolding optimize_behind join_stmts
join_from no_stmts rs before = refl
join_from (more_stmts t ts) rs before =
    go (is_terminal before) refl (optimize_behind ts (extend before (optimize_stmt t)))
    (join_from ts rs (extend before (optimize_stmt t)))
  where
    go : (b : Bool) → is_terminal before ≡ b → {x : Stmts} (y : Stmts) → x ≡ optimize_behind rs y
        → cond b before x ≡ optimize_behind rs (cond b before y)
    go true q y e = sym (behind_exit rs before q)
    go false q y e = e

pub join_places : (ss rs before : Stmts)
    → foldable_behind (join_stmts ss rs) before
    ≡ foldable_behind ss before + foldable_behind rs (optimize_behind ss before)
unfolding foldable_behind optimize_behind join_stmts
join_places no_stmts rs before = omega arith
join_places (more_stmts t ts) rs before =
    go (is_terminal before) refl (foldable_behind ts (extend before (optimize_stmt t)))
    (optimize_behind ts (extend before (optimize_stmt t))) (join_places ts rs (extend before (optimize_stmt t)))
  where
    go : (b : Bool) → is_terminal before ≡ b → {m : ℕ} (n : ℕ) (made : Stmts) → m ≡ n + foldable_behind rs made
        → cond b 0 (foldable_stmt t + m) ≡ cond b 0 (foldable_stmt t + n) + foldable_behind rs (cond b before made)
    go true q n made e = omega (arith, places_exit rs before q)
    go false q n made e = omega (arith, e)

-- one statement more, where no exit was met
module _ (ss : Stmts) (s : Stmt) (going : is_terminal (optimize_behind ss no_stmts) ≡ false) where
  pub one_more : optimize_behind (join_stmts ss (one s)) no_stmts ≡ extend (optimize_behind ss no_stmts)
      (optimize_stmt s)
  unfolding one optimize_behind
  one_more = join_from ss (one s) no_stmts ∙ behind_more s no_stmts (optimize_behind ss no_stmts) going

  pub one_places : foldable_behind (join_stmts ss (one s)) no_stmts ≡ foldable_behind ss no_stmts + foldable_stmt s
  unfolding one foldable_behind
  one_places =
      omega (
        arith,
        join_places ss (one s) no_stmts,
        places_more s no_stmts (optimize_behind ss no_stmts) going,
      )

-- ---- words

join_proper : (ss rs : Stmts) → ProperStmts ss → ProperStmts rs → ProperStmts (join_stmts ss rs)
unfolding join_stmts
join_proper no_stmts rs p q = q
join_proper (more_stmts t ts) rs p q = (p.0, join_proper ts rs p.1 q)

join_valids : (ss rs : Stmts) (i : ℕ) → Valids (λ (i : ℕ). sort.Stmt) i (roses_s ss)
    → Valids (λ (i : ℕ). sort.Stmt) 0 (roses_s rs) → Valids (λ (i : ℕ). sort.Stmt) i (roses_s (join_stmts ss rs))
unfolding join_stmts
join_valids no_stmts rs i v u = valids_from sort.Stmt (roses_s rs) 0 i u
join_valids (more_stmts t ts) rs i v u = (v.0, join_valids ts rs (suc i) v.1 u)

join_deep : (ss rs : Stmts) (n : ℕ) → depths (roses_s ss) ≤ n → depths (roses_s rs) ≤ n
    → depths (roses_s (join_stmts ss rs)) ≤ n
unfolding join_stmts
join_deep no_stmts rs n l m = m
join_deep (more_stmts t ts) rs n l m = omega (arith, l, join_deep ts rs n (omega (arith, l)) m)

pub listed_none : (w : List ℕ) (at : ℕ) → Listed w at at no_stmts
listed_none w at = record { proper = tt; valid = tt; here = tt; ends = omega arith; deep = omega arith }

pub listed_one : {w : List ℕ} {at next : ℕ} {s : Stmt} → Stands w at next s → Listed w at next (one s)
unfolding one
listed_one st = record {
  proper = (st.valid.0, tt);
  valid = (st.valid.1, tt);
  here = (st.here, tt);
  ends = omega (arith, st.ends);
  deep = omega (arith, st.deep);
}

pub listed_join : {w : List ℕ} {a b c : ℕ} {ss rs : Stmts} → Listed w a b ss → Listed w b c rs
    → Listed w a c (join_stmts ss rs)
listed_join {w} {a} {b} {c} {ss} {rs} x y = record {
  proper = join_proper ss rs x.proper y.proper;
  valid = join_valids ss rs 0 x.valid y.valid;
  here = join_at w a ss rs x.here (subst (λ (i : ℕ). Ats w i (roses_s rs)) x.ends y.here);
  ends = omega (arith, x.ends, y.ends, join_row ss rs);
  deep = join_deep ss rs 200 x.deep y.deep;
}

-- below a frame
pub listed_same : {top : ℕ} {w v : List ℕ} {a b : ℕ} {ss : Stmts} → Same top w v → b ≤ top → Listed w a b ss
    → Listed v a b ss
listed_same {a = a} {ss = ss} f l x = record {
  proper = x.proper;
  valid = x.valid;
  here = same_ats (roses_s ss) a (omega (arith, x.ends)) f x.here;
  ends = x.ends;
  deep = x.deep;
}
