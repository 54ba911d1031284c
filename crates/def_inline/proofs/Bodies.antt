-- What a body begins with, by its first words, and the four answers for it.
-- Assumes nothing.
use mathlib.Core.Bool.{Bool, true, false, cond, ◌&&◌}
use mathlib.Core.List.{List, [], ◌∷◌}
use mathlib.Core.Path.{◌≡◌, refl, ap, ap₂, sym, subst, ◌∙◌}
use Prim.Native.Nat.{ℕ, ◌+◌, ◌≤◌}
use native.Mathlib.Omega.{arith}
use borrow.Author.Tests.{eq-eqb, ne_eqb}
use lib.Dec.{eqb}
use lib.ListN.{length, get_or}
use Rattle.spec.specs.Rose.{Rose, node, nil, cons, size, At, own_of, parts_of}
use Rattle.spec.specs.Rose.{count as countR}
use Rattle.spec.specs.Grammar.{kind_in, detail_in, rules, part_count, part_sort, Valid}
use Rattle.spec.specs.Tree
use Rattle.spec.specs.Tree.{Expr, Exprs, const, read, fresh, dict, if_then, type_is, logic, seq, oper, call, rose_e}
use Rattle.spec.specs.Tree.{Targets}
use Rattle.spec.specs.Proper.{Proper}
use Rattle.spec.specs.Meaning.{expr_of, exprs_of, targets_of, stmt_of, stmts_of, list_of, Lists, lists_of, part_e}
use Rattle.spec.specs.Meaning.{stmt_by}
use Rattle.spec.specs.Views.{word_in, kind_of}
use Rattle.spec.specs.Inlining.{First, empty_body, other_first, returning, first_stmt, first_of, is_first_local}
use Rattle.spec.specs.Inlining.{Inline, neither, type_test, safe_at, test_expr, test_first, plain_first, inline_body}
use Rattle.spec.proofs.Heads
use Rattle.spec.proofs.Heads.{StmtHead, stmt_head_lem, payload_view, payload_length}
use Rattle.spec.proofs.Meanings.{rose_expr, proper_expr}
use Rattle.spec.proofs.Inlinings.{is_type_is, type_is_word, local_words}
use Rattle.spec.specs.declared.Sort.TheVariants as sort
use Rattle.ir.specs.Standing.{SomeStmt, NodeOf, SomeExpr}
use Rattle.walk.specs.Walked.{SomeList, Counted}
use Rattle.std.proofs.Common.{Option, Some, None, rules as all_rules}
use Rattle.tables.specs.Kinds.{stmt_number}
use Rattle.tables.specs.declared.stmts.StmtKind.{StmtKind}
use Rattle.tables.specs.declared.stmts.StmtKind.TheVariants as stmt
use Rattle.std.specs.Bool.{then_some}
use Rattle.def_inline.specs.declared.expr.Safety.{Safety}
use Rattle.def_inline.specs.Told.{test_or, SafeOf, TestAt, Returned, FirstOf, TestOf, PlainOf, BodyOf}
use Rattle.def_inline.specs.declared.body.InlineDefBody.{InlineDefBody}
use Rattle.def_inline.specs.declared.body.InlineDefBody.TheVariants as body
use Rattle.def_inline.specs.declared.body.First.TheVariants as first

-- ---- the first statement

-- a body with none
pub body_empty : {ws : List ℕ} {n at : ℕ} → Counted ws 0 n at → n ≡ 0 → FirstOf ws first.Nothing
unfolding list_of stmts_of
body_empty {ws} {n} {at} c e = record { of = λ r v a i. go r (c.of r v a).0 }
  where
    go : (r : Rose) → n ≡ countR (parts_of r) → first_of (list_of r) ≡ empty_body
    go (node t own nil) m = refl
    go (node t own (cons p ps)) m = absurd (omega arith)

-- the first of some
record Begins (ws : List ℕ) (at : ℕ) (rule : Rose) : Type 0 where
  tree : Rose
  valid : Valid sort.Stmt tree
  here : At ws at tree
  inside : at + size tree ≤ length ws
  place : at ≡ 1
  so : first_of (list_of rule) ≡ first_stmt (stmt_of tree)

-- a statement by its kind
first_kind : {k d : ℕ} → StmtHead k d → (pay : List ℕ) (es : Exprs) (ts : Targets) (ls : Lists)
    → first_stmt (stmt_by k d pay es ts ls) ≡ cond (eqb k 33) (returning (part_e 0 es)) other_first
first_kind Heads.possible_gc pay es ts ls = refl
first_kind Heads.return pay es ts ls = refl
first_kind Heads.expr pay es ts ls = refl
first_kind Heads.assign pay es ts ls = refl
first_kind Heads.assign_modify pay es ts ls = refl
first_kind Heads.if_stmt pay es ts ls = refl
first_kind Heads.for pay es ts ls = refl
first_kind Heads.break pay es ts ls = refl
first_kind Heads.continue pay es ts ls = refl

first_words : (p : Rose) → Valid sort.Stmt p
    → first_stmt (stmt_of p) ≡ cond (eqb (kind_of p) 33) (returning (part_e 0 (exprs_of (parts_of p)))) other_first
unfolding stmt_of
first_words (node t [] ps) v = absurd v.1
first_words (node t (h ∷ pay) ps) v =
    first_kind (stmt_head_lem (kind_in h) (detail_in h) v.1.head) pay (exprs_of ps) (targets_of ps) (lists_of ps)

module _ {ws : List ℕ} {n at : ℕ} (c : Counted ws 0 n at) (some : n ≡ 0 → ⊥) where
  begins : (r : Rose) → Valid sort.List r → At ws 0 r → 0 + size r ≤ length ws → Begins ws at r
  unfolding list_of stmts_of
  begins r v a i = go r v a i (c.of r v a)
    where
      go : (r : Rose) → Valid sort.List r → At ws 0 r → 0 + size r ≤ length ws
          → (n ≡ countR (parts_of r)) × (at ≡ 0 + 1) → Begins ws at r
      go (node t [] ps) v a i e = absurd v.1
      go (node t (h ∷ pay) nil) v a i e = absurd (some (omega (arith, e.0)))
      go (node t (h ∷ pay) (cons p ps)) v a i e =
          let one : length pay ≡ 0 = ap length v.1.alone in
          let here : 0 + length (h ∷ pay) ≡ at = omega (arith, e.1) in
          record {
            tree = p;
            valid = v.2.0;
            here = subst (λ (k : ℕ). At ws k p) here a.1.0;
            inside = omega (arith, e.1);
            place = omega (arith, e.1);
            so = refl;
          }

  pub first_node : SomeList ws 0 → SomeStmt ws at
  first_node s =
      let b = begins s.tree s.valid s.here s.inside in
      record { tree = b.tree; valid = b.valid; here = b.here; inside = b.inside }

  module _ {k d w part m : ℕ} (o : NodeOf ws at k d w part m) where
    -- a Return
    pub body_returns : k ≡ 33 → FirstOf ws (first.Return part)
    unfolding exprs_of
    body_returns e = record {
      of = λ r v a i.
          let b = begins r v a i in
          let s = o.of sort.Stmt b.tree refl b.valid b.here in
          let kind : kind_of b.tree ≡ 33 = sym s.is_kind ∙ e in
          go r b.tree b.valid b.here b.inside b.place s.is_first kind
          (b.so ∙ first_words b.tree b.valid
          ∙ ap (λ (t : Bool). cond t (returning (part_e 0 (exprs_of (parts_of b.tree)))) other_first)
          (eq-eqb (kind_of b.tree) 33 kind));
    }
      where
        go : (r p : Rose) → Valid sort.Stmt p → At ws at p → at + size p ≤ length ws → at ≡ 1
            → part ≡ at + length (own_of p) → kind_of p ≡ 33
            → first_of (list_of r) ≡ returning (part_e 0 (exprs_of (parts_of p))) → Returned ws part r
        go r (node t [] ps) v a i q f z so = absurd v.1
        go r (node t (h ∷ pay) nil) v a i q f z so =
            let none = v.1.many ∙ ap (λ (n : ℕ). part_count n (detail_in h) (get_or pay 0 0)) z in
            absurd (omega arith)
        go r (node t (h ∷ pay) (cons x ps)) v a i q f z so =
            let long = payload_length
            (payload_view (rules (kind_in h) (detail_in h) (get_or pay 0 0)) pay v.1.ruled)
            ∙ ap (λ (n : ℕ). length (rules n (detail_in h) (get_or pay 0 0))) z in
            record {
              tree = x;
              valid = subst (λ (n : ℕ). Valid (part_sort n 0) x) z v.2.0;
              here = subst (λ (n : ℕ). At ws n x) (sym f) a.1.0;
              inside = omega arith;
              place = omega arith;
              so = so;
            }

    -- another
    body_not : (k ≡ 33 → ⊥) → FirstOf ws first.Other
    body_not e = record {
      of = λ r v a i.
          let b = begins r v a i in
          let s = o.of sort.Stmt b.tree refl b.valid b.here in
          b.so ∙ first_words b.tree b.valid
          ∙ ap (λ (t : Bool). cond t (returning (part_e 0 (exprs_of (parts_of b.tree)))) other_first)
          (ne_eqb (kind_of b.tree) 33 (λ (q : kind_of b.tree ≡ 33). e (s.is_kind ∙ q)));
    }

  pub body_other : {kind : StmtKind} {d w part m : ℕ} → NodeOf ws at (stmt_number kind) d w part m
      → (kind ≡ stmt.Return → ⊥) → FirstOf ws first.Other
  body_other {kind} o other =
      let no' : stmt_number kind ≡ 33 → ⊥ = search all_rules in
      body_not o no'

-- ---- a type test

some_test : (b : Bool) (text : ℕ) (o : Inline) → cond b (type_test text) o ≡ test_or (then_some b text) o
some_test true text o = refl
some_test false text o = refl

-- by the words of header, part and slot
abbrev test_by : ℕ → ℕ → ℕ → Bool
test_by head part slot = eqb head 1035 && (eqb part 2 && eqb slot 0)

module _ (ws : List ℕ) where
  -- the first word
  first_word : (at : ℕ) (e : Expr) → Valid sort.Expr (rose_e e) → At ws at (rose_e e) → get_or ws at 0 ≡ word_in
      (rose_e e) 0
  first_word at e v a = go (rose_e e) v a
    where
      go : (r : Rose) → Valid sort.Expr r → At ws at r → get_or ws at 0 ≡ word_in r 0
      go (node t [] ps) w b = absurd w.1
      go (node t (h ∷ pay) ps) w b = b.0.0

  -- another expression
  another : (at : ℕ) (e : Expr) (b : Bool) (x y : Inline) → Proper e → Valid sort.Expr (rose_e e) → At ws at (rose_e e)
      → is_type_is e ≡ false → y ≡ cond (eqb (get_or ws at 0) 1035 && b) x y
  another at e b x y p v a n =
      sym (ap (λ (t : Bool). cond (t && b) x y)
      (ap (λ (h : ℕ). eqb h 1035) (first_word at e v a) ∙ sym (type_is_word e p) ∙ n))

  -- Local 0, by its two words
  local_at : (at : ℕ) (e : Expr) → Proper e → Valid sort.Expr (rose_e e) → At ws at (rose_e e)
      → is_first_local e ≡ eqb (get_or ws at 0) 2 && eqb (get_or ws (at + 1) 0) 0
  local_at at e p v a = local_words e p ∙ go (rose_e e) v a
    where
      go : (r : Rose) → Valid sort.Expr r → At ws at r
          → eqb (word_in r 0) 2 && eqb (word_in r 1) 0 ≡ eqb (get_or ws at 0) 2 && eqb (get_or ws (at + 1) 0) 0
      go (node t [] ps) w b = absurd w.1
      go (node t (h ∷ []) ps) w b =
          let none : (h ≡ 2 → ⊥) =
          λ (q : h ≡ 2).
          let long = payload_length
          (payload_view (rules (kind_in h) (detail_in h) 0) [] w.1.ruled)
          ∙ ap (λ (n : ℕ). length (rules (kind_in n) (detail_in n) 0)) q in
          omega arith in
          ap (λ (x : Bool). x && eqb 0 0) (ne_eqb h 2 none)
          ∙ sym (ap (λ (x : Bool). x && eqb (get_or ws (at + 1) 0) 0)
          (ap (λ (n : ℕ). eqb n 2) b.0.0 ∙ ne_eqb h 2 none))
      go (node t (h ∷ x ∷ pay) ps) w b =
          ap₂ (λ (m n : ℕ). eqb m 2 && eqb n 0) (sym b.0.0) (sym b.0.1.0)

  module _ (at : ℕ) (o : Inline) where
    test_at : (e : Expr) → Proper e → Valid sort.Expr (rose_e e) → At ws at (rose_e e)
        → test_expr e o
        ≡ cond (test_by (get_or ws at 0) (get_or ws (at + 2) 0) (get_or ws (at + 3) 0))
        (type_test (get_or ws (at + 1) 0)) o
    test_at (const c) p v a = another at (const c) _ _ _ p v a refl
    test_at (read x) p v a = another at (read x) _ _ _ p v a refl
    test_at (fresh f es) p v a = another at (fresh f es) _ _ _ p v a refl
    test_at (dict es) p v a = another at (dict es) _ _ _ p v a refl
    test_at (if_then c t f) p v a = another at (if_then c t f) _ _ _ p v a refl
    test_at (Tree.not e) p v a = another at (Tree.not e) _ _ _ p v a refl
    test_at (type_is t e) p v a =
        let three : at + 2 + 1 ≡ at + 3 = omega arith in
        ap₂ (λ (b : Bool) (n : ℕ). cond b (type_test n) o)
        (local_at (at + 2) e p v.2.0 a.1.0
        ∙ ap (λ (n : ℕ). eqb (get_or ws (at + 2) 0) 2 && eqb (get_or ws n 0) 0) three
        ∙ ap (λ (n : ℕ). eqb n 1035 && (eqb (get_or ws (at + 2) 0) 2 && eqb (get_or ws (at + 3) 0) 0)) (sym a.0.0))
        (sym a.0.1.0)
    test_at (logic l x y) p v a = another at (logic l x y) _ _ _ p v a refl
    test_at (seq x y) p v a = another at (seq x y) _ _ _ p v a refl
    test_at (oper h pay es) p v a = another at (oper h pay es) _ _ _ p v a refl
    test_at (call names args kwargs f es) p v a = another at (call names args kwargs f es) _ _ _ p v a refl

pub test_of : {ws : List ℕ} {at : ℕ} {head text part slot : ℕ} → head ≡ get_or ws at 0 → text ≡ get_or ws (at + 1) 0
    → part ≡ get_or ws (at + 2) 0 → slot ≡ get_or ws (at + 3) 0
    → TestAt ws at (then_some (eqb head 1035 && (eqb part 2 && eqb slot 0)) text)
test_of {ws} {at} {head} {text} {part} {slot} h t p s = record {
  of = λ r v a o.
      let back = sym (rose_expr r v) in
      test_at ws at o (expr_of r) (proper_expr r v) (subst (Valid sort.Expr) back v) (subst (At ws at) back a)
      ∙ ap₂ (λ (m n : ℕ). cond (test_by m (get_or ws (at + 2) 0) (get_or ws (at + 3) 0)) (type_test n) o) (sym h)
      (sym t)
      ∙ ap₂ (λ (m n : ℕ). cond (test_by head m n) (type_test text) o) (sym p) (sym s)
      ∙ some_test (test_by head part slot) text o;
}

-- ---- by what a body begins with

-- no type test
pub test_nothing : {ws : List ℕ} → FirstOf ws first.Nothing → TestOf ws None
test_nothing {ws} f = record { of = λ r v a i o. ap (λ (x : First). test_first x o) (f.of r v a i) }

pub test_other : {ws : List ℕ} → FirstOf ws first.Other → TestOf ws None
test_other {ws} f = record { of = λ r v a i o. ap (λ (x : First). test_first x o) (f.of r v a i) }

-- an expression that is returned
module _ {ws : List ℕ} {at : ℕ} (f : FirstOf ws (first.Return at)) where
  pub returned : SomeList ws 0 → SomeExpr ws at
  returned s =
      let x = f.of s.tree s.valid s.here s.inside in
      record { tree = x.tree; valid = x.valid; here = x.here; inside = x.inside }

  pub test_returned : {test : Option ℕ} → TestAt ws at test → TestOf ws test
  test_returned t = record {
    of = λ r v a i o.
        let x = f.of r v a i in
        ap (λ (y : First). test_first y o) x.so ∙ t.of x.tree x.valid x.here o;
  }

  module _ {params : ℕ} {s : Safety} (t : SafeOf ws at params s) where
    plain_by : (r : Rose) → Valid sort.List r → At ws 0 r → 0 + size r ≤ length ws
        → plain_first params (first_of (list_of r)) ≡ cond s.safe (safe_at at) neither
    plain_by r v a i =
        let x = f.of r v a i in
        ap (plain_first params) x.so
        ∙ ap₂ (λ (y : Bool) (n : ℕ). cond y (safe_at n) neither) (sym (t.of x.tree x.valid x.here).0)
        (sym x.place)

    pub plain_safe : s.safe ≡ true → PlainOf ws params (body.Safe at)
    plain_safe e = record {
      of = λ r v a i. sym (plain_by r v a i ∙ ap (λ (y : Bool). cond y (safe_at at) neither) e);
    }

    pub plain_unsafe : s.safe ≡ false → PlainOf ws params body.Neither
    plain_unsafe e = record {
      of = λ r v a i. sym (plain_by r v a i ∙ ap (λ (y : Bool). cond y (safe_at at) neither) e);
    }

pub plain_nothing : {ws : List ℕ} {params : ℕ} → FirstOf ws first.Nothing → PlainOf ws params body.NoneValue
plain_nothing {ws} {params} f = record { of = λ r v a i. sym (ap (plain_first params) (f.of r v a i)) }

pub plain_other : {ws : List ℕ} {params : ℕ} → FirstOf ws first.Other → PlainOf ws params body.Neither
plain_other {ws} {params} f = record { of = λ r v a i. sym (ap (plain_first params) (f.of r v a i)) }

-- ---- the four answers

module _ (params : ℕ) (positional star : Bool) (variables : ℕ) (ws : List ℕ) where
  -- the type test, where it is asked for
  pub record Tested (test : Option ℕ) : Type 0 where
    of : (r : Rose) → Valid sort.List r → At ws 0 r → 0 + size r ≤ length ws → (other : Inline)
        → cond (eqb params 1 && positional) (test_first (first_of (list_of r)) other) other ≡ test_or test other

  pub asked : eqb params 1 && positional ≡ true → {test : Option ℕ} → TestOf ws test → Tested test
  asked e t = record {
    of = λ r v a i other.
        ap (λ (b : Bool). cond b (test_first (first_of (list_of r)) other) other) e ∙ t.of r v a i other;
  }

  pub not_asked : eqb params 1 && positional ≡ false → Tested None
  not_asked e = record {
    of = λ r v a i other. ap (λ (b : Bool). cond b (test_first (first_of (list_of r)) other) other) e;
  }

  by_tests : {test : Option ℕ} → Tested test → (r : Rose) → Valid sort.List r → At ws 0 r → 0 + size r ≤ length ws
      → inline_body params positional star variables (list_of r)
      ≡ test_or test (cond star neither (plain_first variables (first_of (list_of r))))
  unfolding inline_body
  by_tests t r v a i = t.of r v a i (cond star neither (plain_first variables (first_of (list_of r))))

  pub body_test : {text : ℕ} → Tested (Some text) → BodyOf ws params positional star variables (body.TypeTest text)
  body_test t = record { of = λ r v a i. sym (by_tests t r v a i) }

  module _ (none : Tested None) where
    pub body_star : star ≡ true → BodyOf ws params positional star variables body.Neither
    body_star e = record { of = λ r v a i. sym (by_tests none r v a i ∙ simp e) }

    pub body_plain : star ≡ false → {i : InlineDefBody} → PlainOf ws variables i
        → BodyOf ws params positional star variables i
    body_plain e p = record { of = λ r v a i. p.of r v a i ∙ sym (by_tests none r v a i ∙ simp e) }

-- ---- what the check applies, function by function

pub ruleset of_first = (body_empty, first_node, body_returns, body_other)

pub ruleset of_tests = (test_nothing, test_other, returned, test_returned)

pub ruleset of_plain = (returned, plain_safe, plain_unsafe, plain_nothing, plain_other)

pub ruleset of_bodies = (asked, not_asked, body_test, body_star, body_plain)
