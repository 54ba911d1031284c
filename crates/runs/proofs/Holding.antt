-- Runs hold their statements where the words stay or are moved; no statement, and one run behind another; and what is
-- kept beside a slot.
-- Assumes nothing.
use mathlib.Core.Bool.{Bool, true, false}
use mathlib.Core.List.{List}
use mathlib.Core.Path.{◌≡◌, refl, sym, subst, ◌∙◌}
use Prim.Native.Nat.{ℕ, ◌+◌, ◌≤◌}
use native.Mathlib.Omega.{arith}
use Rattle.spec.specs.Rose.{Rose, Roses, size, sizes, At, Ats}
use Rattle.spec.specs.Frames.{Agree}
use Rattle.spec.specs.Tree.{Expr, Stmt, Stmts, no_stmts, rose_e, rose_s, roses_s}
use Rattle.spec.specs.PassStmts.{one, is_exit, is_terminal, extend}
use Rattle.spec.specs.Weight.{row_words}
use Rattle.spec.proofs.Places.{at_move, ats_move}
use Rattle.spec.proofs.Counts.{row_counts}
use Rattle.spec.proofs.Exits.{join_last, extend_exits, extend_joins}
use Rattle.buffer.specs.Copy.{Same, PutDone}
use Rattle.buffer.proofs.Frames.{same_refl, same_trans, same_less, same_agree}
use Rattle.expr_forms.specs.Made.{Is}
use Rattle.expr_forms.proofs.Moves.{is_agree}
use Rattle.runs.specs.Held.{Holds, ExtendDone, Kept}
use Rattle.runs.specs.declared.Run.{Run}
use Rattle.runs.proofs.Rows.{join_row, join_count, join_at}

-- ---- what is kept beside a slot

pub kept_refl : (low high top : ℕ) (w : List ℕ) → Kept low high top w w
kept_refl low high top w = record { frame = same_refl low w; beside = λ k l h. refl }

pub kept_trans : {low high top : ℕ} {w v u : List ℕ} → Kept low high top w v → Kept low high top v u
    → Kept low high top w u
kept_trans p q = record {
  frame = same_trans p.frame q.frame;
  beside = λ k l h. q.beside k l h ∙ p.beside k l h;
}

-- less is kept of a larger slot, and below a lower top
pub kept_less : {low high top : ℕ} (less more under : ℕ) {w v : List ℕ} → less ≤ low → high ≤ more → under ≤ top
    → Kept low high top w v → Kept less more under w v
kept_less less more under l m u p = record {
  frame = same_less less l p.frame;
  beside = λ k g h. p.beside k (omega arith) (omega arith);
}

-- a frame above the slot
pub kept_same : {top : ℕ} (low high : ℕ) {w v : List ℕ} → low ≤ top → Same top w v → Kept low high top w v
kept_same low high l s = record { frame = same_less low l s; beside = λ k g h. s.word k h }

-- words between the slot and top agree
pub kept_agree : {low high top : ℕ} {w v : List ℕ} (a n : ℕ) → high ≤ a → a + n ≤ top → Kept low high top w v
    → Agree w a v a n
kept_agree a n l h p = record { word = λ k g. p.beside (a + k) (omega arith) (omega arith) }

-- words were put into the slot
pub kept_put : {w v : List ℕ} {from end low r : ℕ} (high top : ℕ) → r ≤ high → PutDone w v from end low r
    → Kept low high top w v
kept_put high top p d = record { frame = d.frame; beside = λ i g h. d.above i (omega arith) }

-- trees beside the slot
pub kept_at : {low high top : ℕ} {w v : List ℕ} → Kept low high top w v → (r : Rose) (a : ℕ) → high ≤ a
    → a + size r ≤ top → At w a r → At v a r
kept_at k r a p q t = at_move r t (kept_agree a (size r) p q k)

pub kept_ats : {low high top : ℕ} {w v : List ℕ} → Kept low high top w v → (rs : Roses) (a : ℕ) → high ≤ a
    → a + sizes rs ≤ top → Ats w a rs → Ats v a rs
kept_ats k rs a p q t = ats_move rs t (kept_agree a (sizes rs) p q k)

-- ---- an expression that stands from a place up to another

pub is_kept : {low high top : ℕ} {w v : List ℕ} {at end : ℕ} {e : Expr} → Kept low high top w v → high ≤ at
    → end ≤ top → Is w at end e → Is v at end e
is_kept {at = at} {e = e} p l h i = is_agree (kept_agree at (size (rose_e e)) l (omega (arith, i.ends)) p) i

-- ---- runs

-- the words agree from the run's place on
pub holds_agree : {w v : List ℕ} {run : Run} {ss : Stmts} → Agree w run.at v run.at (row_words ss) → Holds w run ss
    → Holds v run ss
holds_agree {ss = ss} g h = record {
  here = ats_move (roses_s ss) h.here g;
  ends = h.ends;
  counts = h.counts;
  exits = h.exits;
}

-- below a frame
pub holds_same : {top : ℕ} {w v : List ℕ} {run : Run} {ss : Stmts} → Same top w v → run.end ≤ top → Holds w run ss
    → Holds v run ss
holds_same {run = run} {ss = ss} s l h =
    holds_agree (same_agree run.at (row_words ss) (omega (arith, h.ends)) s) h

-- between a slot and top
pub holds_kept : {low high top : ℕ} {w v : List ℕ} {run : Run} {ss : Stmts} → Kept low high top w v → high ≤ run.at
    → run.end ≤ top → Holds w run ss → Holds v run ss
holds_kept {run = run} {ss = ss} p l u h =
    holds_agree (kept_agree run.at (row_words ss) l (omega (arith, h.ends)) p) h

-- moved, and put elsewhere
pub holds_move : {w v : List ℕ} {run : Run} {ss : Stmts} {top last : ℕ} → Agree w run.at v top (row_words ss)
    → last ≡ top + row_words ss → Holds w run ss
    → Holds v (record { at = top; end = last; count = run.count; last = run.last }) ss
holds_move {ss = ss} g e h = record {
  here = ats_move (roses_s ss) h.here g;
  ends = e;
  counts = h.counts;
  exits = h.exits;
}

pub holds_put : {w v : List ℕ} {run : Run} {ss : Stmts} {top last : ℕ} → PutDone w v run.at run.end top last
    → Holds w run ss → Holds v (record { at = top; end = last; count = run.count; last = run.last }) ss
holds_put p h =
    holds_move (record { word = λ k g. p.moved.word k (omega (arith, h.ends)) }) (omega (arith, p.ends, h.ends)) h

-- one statement
pub holds_one : {w : List ℕ} {at end : ℕ} {last : Bool} (s : Stmt) → At w at (rose_s s) → end ≡ at + size (rose_s s)
    → last ≡ is_exit s → Holds w (record { at = at; end = end; count = 1; last = last }) (one s)
unfolding one is_terminal
holds_one s t e l = record { here = (t, tt); ends = omega (arith, e); counts = refl; exits = l }

-- a run behind one that does not exit
pub holds_join : {w : List ℕ} {left behind : Run} {ss rs : Stmts} → Holds w left ss → Holds w behind rs
    → behind.at ≡ left.end → left.last ≡ false
    → Holds w (record { at = left.at; end = behind.end; count = left.count + behind.count; last = behind.last })
    (extend ss rs)
holds_join {w} {left} {behind} {ss} {rs} x y e l =
    let n : is_terminal ss ≡ false = sym x.exits ∙ l in
    rw (extend_joins ss rs n) (record {
      here = join_at w left.at ss rs x.here (subst (λ (k : ℕ). Ats w k (roses_s rs)) (e ∙ x.ends) y.here);
      ends = omega (arith, join_row ss rs, x.ends, y.ends, e);
      counts = omega (arith, join_count ss rs, x.counts, y.counts);
      exits = y.exits ∙ sym (join_last ss rs n);
    })

-- no more statements than words
pub holds_few : {w : List ℕ} {run : Run} (ss : Stmts) → Holds w run ss → run.count ≤ row_words ss
holds_few ss h = omega (arith, h.counts, row_counts ss)

-- ---- extend

pub extend_more : {left : Run} (behind : Run) → left.last ≡ false
    → ExtendDone left behind
    (record { at = left.at; end = behind.end; count = left.count + behind.count; last = behind.last })
extend_more behind l = record { begins = refl; right = λ w ss rs x y e. holds_join x y e l }
