-- What reading and pruning the outer list of a rule is asked and leaves, statement by statement. The answer None says
-- nothing.
use Rattle.std.specs.Prelude.{false, List, ◌≡◌, ℕ, ◌+◌, ◌≤◌, eqb, length, get_or, Option, Some, None, ⊤}
use Rattle.spec.specs.Rose.{size, At, Ats, depth, depths}
use Rattle.spec.specs.Grammar.{Valid, Valids}
use Rattle.spec.specs.Tree.{Stmt, Stmts, no_stmts, count_s, rose_s, roses_s, rose_l}
use Rattle.spec.specs.Proper.{ProperStmt, ProperStmts, ValidRule}
use Rattle.spec.specs.PassStmts.{one, is_terminal, join_stmts, optimize_behind, optimize}
use Rattle.spec.specs.Foldable.{foldable_stmt, foldable_count}
use Rattle.spec.specs.Weight.{row_words}
use Rattle.spec.specs.Pruning.{work_words}
use Rattle.spec.specs.declared.Sort.TheVariants as sort
use Rattle.buffer.specs.Copy.{Same}
use Rattle.runs.specs.Held.{Holds}
use Rattle.runs.specs.declared.Run.{Run}
use Rattle.pass.specs.declared.Pruned.{Pruned}
use Rattle.outer.specs.declared.Outer.{Outer}

-- ---- one statement

-- a statement of the outer list stands from `at` up to `next`, and may be as deep as it is
pub record Stands (w : List ℕ) (at next : ℕ) (s : Stmt) : Type 0 where
  pub valid : ProperStmt s × Valid sort.Stmt (rose_s s)
  pub here : At w at (rose_s s)
  pub ends : next ≡ at + size (rose_s s)
  pub deep : depth (rose_s s) ≤ 200

pub record SomeTop (w : List ℕ) (at next : ℕ) : Type 0 where
  pub tree : Stmt
  pub stands : Stands w at next tree

abbrev pub ReadTop : List ℕ → ℕ → Option ℕ → Type 0
ReadTop w at (Some next) = SomeTop w at next
ReadTop w at None = ⊤

-- ---- statements one behind the other

-- from `at` up to `next`
pub record Listed (w : List ℕ) (at next : ℕ) (ss : Stmts) : Type 0 where
  pub proper : ProperStmts ss
  pub valid : Valids (λ (i : ℕ). sort.Stmt) 0 (roses_s ss)
  pub here : Ats w at (roses_s ss)
  pub ends : next ≡ at + row_words ss
  pub deep : depths (roses_s ss) ≤ 200

-- so many, and within n words where they begin within them
pub record RestMade (w : List ℕ) (n at left next : ℕ) : Type 0 where
  pub rest : Stmts
  pub listed : Listed w at next rest
  pub inside : at ≤ n → next ≤ n
  pub many : left ≡ count_s rest

abbrev pub RestDone : List ℕ → ℕ → ℕ → ℕ → Option ℕ → Type 0
RestDone w n at left (Some next) = RestMade w n at left next
RestDone w n at left None = ⊤

-- ---- what is kept

pub record KeepAsk (w : List ℕ) (at end top : ℕ) : Type 0 where
  pub order : at ≤ end
  pub below : end ≤ top
  pub room : top + end ≤ length w + at

-- whatever statement stands there
pub record KeepDone (w v : List ℕ) (at end top : ℕ) (r : Run) : Type 0 where
  pub frame : Same top w v
  pub begins : r.at ≡ top
  pub counts : r.count ≡ 1
  pub right : (s : Stmt) → At w at (rose_s s) → end ≡ at + size (rose_s s)
      → is_terminal (one s) ≡ eqb (get_or w at 0) 33
      → Holds v r (one s)

-- ---- statement by statement

pub record OuterAsk (w : List ℕ) (n : ℕ) : Type 0 where
  pub some : 1 ≤ n
  pub few : n ≤ 16128
  pub exact : length w ≡ work_words n

-- the statements `done` stand from the word behind the count up to `at`, and the run behind the rule's n words holds
-- what the pass makes of them
pub record Begun (w : List ℕ) (n at : ℕ) (run : Run) (done : Stmts) : Type 0 where
  pub listed : Listed w 1 at done
  pub inside : at ≤ n
  pub begins : run.at ≡ n + 1
  pub holds : Holds w run (optimize_behind done no_stmts)

pub record TopAsk (w : List ℕ) (n at : ℕ) (run : Run) : Type 0 where
  pub asked : OuterAsk w n
  pub going : run.last ≡ false
  pub done : Stmts
  pub begun : Begun w n at run done

-- with a statement behind them
pub record TopMade (v : List ℕ) (n : ℕ) (r : Pruned) (done : Stmts) : Type 0 where
  pub tree : Stmt
  pub begun : Begun v n r.next r.run (join_stmts done (one tree))
  pub met : r.foldable ≡ foldable_stmt tree

abbrev pub TopTold : List ℕ → List ℕ → ℕ → ℕ → Run → Option Pruned → Type 0
TopTold w v n at run (Some r) = (done : Stmts) → Begun w n at run done → TopMade v n r done
TopTold w v n at run None = ⊤

pub record TopDone (w v : List ℕ) (n at : ℕ) (run : Run) (r : Option Pruned) : Type 0 where
  pub frame : Same (n + 1) w v
  pub told : TopTold w v n at run r

-- ---- the rule

pub record OuterMade (w v : List ℕ) (n : ℕ) (r : Outer) : Type 0 where
  pub rule : Stmts
  pub valid : ValidRule rule
  pub here : At w 0 (rose_l rule)
  pub whole : n ≡ size (rose_l rule)
  pub deep : depth (rose_l rule) ≤ 200
  pub made : At v n (rose_l (optimize rule))
  pub ends : r.end ≡ n + size (rose_l (optimize rule))
  pub met : r.foldable ≡ foldable_count rule
  pub inside : r.end ≤ length v

abbrev pub OuterDone : List ℕ → List ℕ → ℕ → Option Outer → Type 0
OuterDone w v n (Some r) = OuterMade w v n r
OuterDone w v n None = ⊤
