-- The reading theorems, said of expressions and rules. What is read is valid and all of the words, at most 200 deep
-- (`expr_stands`, `rule_stands`). Every valid one that is no deeper and has no more words than may be is read back from
-- its words (`expr_read`, `rule_read`). At most one valid one stands at a place, however deep or long (`expr_unique`,
-- `expr_alone`, `rule_unique`).
-- Assumes nothing.
use mathlib.Core.List.{List, [], ◌∷◌, ◌++◌}
use mathlib.Core.Path.{◌≡◌, refl, ap, sym, subst, ◌∙◌}
use Prim.Native.Nat.{ℕ, ◌+◌, ◌≤◌}
use native.Mathlib.Omega.{arith}
use borrow.Author.Tests.{le-ltb, le-leb}
use lib.ListN.{length, get_or, replicate, length-append, length-replicate}
use lib.Seq.{take_all}
use Rattle.std.proofs.lemmas.Grind.{common_steps}
use Rattle.spec.specs.Outcome.{Outcome, given, refused}
use Rattle.spec.specs.Blocks.{count_right}
use Rattle.spec.specs.Rose.{Rose, node, size, enc, At, depth}
use Rattle.spec.specs.Grammar.{Valid}
use Rattle.spec.specs.Reading.{Got, bind, read_at, whole, read_words}
use Rattle.spec.specs.Frames.{Stands}
use Rattle.spec.specs.Tree.{Expr, Stmts, rose_e, rose_l}
use Rattle.spec.specs.Proper.{Proper, ProperStmts, ValidExpr, ValidRule}
use Rattle.spec.specs.Meaning.{expr_of, list_of, read_expr, read_rule}
use Rattle.spec.specs.declared.Sort.{Sort}
use Rattle.spec.specs.declared.Sort.TheVariants as sort
use Rattle.spec.proofs.Outcomes.{not_given, passed}
use Rattle.spec.proofs.Places.{length_enc, at_move, at_take, at_enc}
use Rattle.spec.proofs.Readings.{sound, complete, unique}
use Rattle.spec.proofs.Meanings.{rose_expr, proper_expr, expr_again}
use Rattle.spec.proofs.Statements.{rose_list, proper_list, list_again}

-- a valid tree r, which is all of the words and at most 200 deep
pub record Fills (Valid : Type 0) (ws : List ℕ) (r : Rose) : Type 0 where
  pub valid : Valid
  pub here : At ws 0 r
  pub whole : size r ≡ length ws
  pub deep : depth r ≤ 200
  pub words : ws ≡ enc r

-- ---- trees of words

-- what is read whole was read, and ends at the last word
whole_given : (ws : List ℕ) (o : Outcome (Got Rose)) (r : Rose) → whole ws o ≡ given r
    → (g : Got Rose) × (o ≡ given g) × (length ws ≤ g.next) × (g.what ≡ r)
whole_given ws o r p = grind (arith, common_steps)

-- a tree that stands from the first word to the last is all of the words
fills : (s : Sort) (ws : List ℕ) (r : Rose) (next : ℕ) → Stands 200 s ws 0 r next → length ws ≤ next
    → Fills (Valid s r) ws r
fills s ws r next t l = record {
  valid = t.valid;
  here = t.here;
  whole = omega arith;
  deep = t.deep;
  words = sym (take_all (size r) ws (omega arith)) ∙ at_take r ws 0 t.here (omega arith);
}

-- so is what is read
words_stand : (s : Sort) (ws : List ℕ) (r : Rose) → read_words s ws ≡ given r → Fills (Valid s r) ws r
words_stand s ws r e =
    let (g, q, l, same) = whole_given ws (read_at 200 ws s 0) r (passed (count_right (length ws)) _ 5 (length ws) e).1
    in
    subst (λ x. Fills (Valid s x) ws x) same (fills s ws g.what g.next (sound 200 ws s 0 g q) l)

-- a valid tree has a word
has_word : (s : Sort) (r : Rose) → Valid s r → 1 ≤ size r
has_word s (node t [] ps) v = absurd v.1
has_word s (node t (h ∷ pay) ps) v = omega arith

-- and is read back from its words
words_read : (s : Sort) (r : Rose) → Valid s r → depth r ≤ 200 → size r ≤ 16128 → read_words s (enc r) ≡ given r
words_read s r v d m =
    let n = length (enc r) in
    let many : n ≡ size r = length_enc r in
    let some = has_word s r v in
    let e = complete 200 (enc r) s 0 r v (at_enc r) (omega arith) d in
    simp (le-leb 1 n (omega arith), le-leb n 16128 (omega arith), e, le-ltb (0 + size r) n (omega arith))

-- ---- what they mean

-- the proper trees of a type and the valid trees of words of a sort are the same thing
record Same (T : Type 0) (s : Sort) (rose : T → Rose) (meant : Rose → T) (Proper : T → Type 0) : Type 0 where
  back : (r : Rose) → Valid s r → rose (meant r) ≡ r
  proper : (r : Rose) → Valid s r → Proper (meant r)
  again : (t : T) → Proper t → Valid s (rose t) → meant (rose t) ≡ t

expressions : Same Expr sort.Expr rose_e expr_of Proper
expressions = record { back = rose_expr; proper = proper_expr; again = expr_again }

rules : Same Stmts sort.List rose_l list_of ProperStmts
rules = record { back = rose_list; proper = proper_list; again = list_again }

module _ {T : Type 0} {s : Sort} {rose : T → Rose} {meant : Rose → T} {Proper : T → Type 0}
    (same : Same T s rose meant Proper) where
  stands : (ws : List ℕ) (o : Outcome Rose) → read_words s ws ≡ o → (t : T) → bind o (λ r. given (meant r)) ≡ given t
      → Fills (Proper t × Valid s (rose t)) ws (rose t)
  stands ws (refused number place) q t e = absurd (not_given e)
  stands ws (given r) q t e =
      let f = words_stand s ws r q in
      let means : meant r ≡ t = cc in
      let proper : Proper t = subst Proper means (same.proper r f.valid) in
      rw (sym (ap rose means) ∙ same.back r f.valid)
      (record { valid = (proper, f.valid); here = f.here; whole = f.whole; deep = f.deep; words = f.words })

  read_back : (t : T) → Proper t × Valid s (rose t) → depth (rose t) ≤ 200 → size (rose t) ≤ 16128
      → bind (read_words s (enc (rose t))) (λ r. given (meant r)) ≡ given t
  read_back t v d m = rw (words_read s (rose t) v.1 d m) (ap given (same.again t v.0 v.1))

  alone : (ws : List ℕ) (at : ℕ) (t u : T) → Proper t × Valid s (rose t) → Proper u × Valid s (rose u)
      → At ws at (rose t) → At ws at (rose u) → at + size (rose t) ≤ length ws → at + size (rose u) ≤ length ws → t ≡ u
  alone ws at t u v w a b l m =
      let trees = unique ws s at (rose t) (rose u) v.1 w.1 a b l m in
      sym (same.again t v.0 v.1) ∙ ap meant trees ∙ same.again u w.0 w.1

-- ---- expressions

-- what is read is valid, and all of the words
pub expr_stands : (ws : List ℕ) (e : Expr) → read_expr ws ≡ given e → Fills (ValidExpr e) ws (rose_e e)
expr_stands ws = stands expressions ws (read_words sort.Expr ws) refl

-- a valid one is read back from its words
pub expr_read : (e : Expr) → ValidExpr e → depth (rose_e e) ≤ 200 → size (rose_e e) ≤ 16128
    → read_expr (enc (rose_e e)) ≡ given e
expr_read = read_back expressions

-- at most one stands at a place
pub expr_unique : (ws : List ℕ) (at : ℕ) (e f : Expr) → ValidExpr e → ValidExpr f → At ws at (rose_e e)
    → At ws at (rose_e f) → at + size (rose_e e) ≤ length ws → at + size (rose_e f) ≤ length ws → e ≡ f
expr_unique = alone expressions

-- words with zeros behind them read as they did
padded : (ws : List ℕ) (n k : ℕ) → get_or (ws ++ replicate n 0) k 0 ≡ get_or ws k 0
padded ws n k = grind (arith, common_steps)

-- the same where neither is known to end within the words
pub expr_alone : (ws : List ℕ) (at : ℕ) (e f : Expr) → ValidExpr e → ValidExpr f → At ws at (rose_e e)
    → At ws at (rose_e f) → e ≡ f
expr_alone ws at e f v w a b =
    let n = at + size (rose_e e) + size (rose_e f) in
    let long = length-append ws (replicate n 0) ∙ ap (λ (m : ℕ). length ws + m) (length-replicate n 0) in
    expr_unique (ws ++ replicate n 0) at e f v w
    (at_move (rose_e e) a (record { word = λ k h. padded ws n (at + k) }))
    (at_move (rose_e f) b (record { word = λ k h. padded ws n (at + k) }))
    (omega (arith, long)) (omega (arith, long))

-- ---- the same for rules

pub rule_stands : (ws : List ℕ) (ss : Stmts) → read_rule ws ≡ given ss → Fills (ValidRule ss) ws (rose_l ss)
rule_stands ws = stands rules ws (read_words sort.List ws) refl

pub rule_read : (ss : Stmts) → ValidRule ss → depth (rose_l ss) ≤ 200 → size (rose_l ss) ≤ 16128
    → read_rule (enc (rose_l ss)) ≡ given ss
rule_read = read_back rules

pub rule_unique : (ws : List ℕ) (at : ℕ) (ss rs : Stmts) → ValidRule ss → ValidRule rs → At ws at (rose_l ss)
    → At ws at (rose_l rs) → at + size (rose_l ss) ≤ length ws → at + size (rose_l rs) ≤ length ws → ss ≡ rs
rule_unique = alone rules
