-- Statements and rules, and the valid words of each, are the same thing, as expressions and theirs are (Meanings).
-- Assumes nothing.
use mathlib.Core.List.{List, [], ◌∷◌}
use mathlib.Core.Path.{◌≡◌, refl, ap, ap₂, sym, subst, ◌∙◌}
use Prim.Native.Nat.{ℕ, suc}
use native.Mathlib.Omega.{arith}
use lib.ListN.{get_or}
use Rattle.spec.specs.Rose.{Rose, Roses, node, nil, cons, count}
use Rattle.spec.specs.Grammar.{header, kind_in, detail_in, rules, part_count, part_sort, Valid, Valids}
use Rattle.spec.specs.Tree.{Expr, Target}
use Rattle.spec.specs.Tree.{Stmt, return, expr, assign, assign_modify, if_stmt, for}
use Rattle.spec.specs.Tree.{Stmts, no_stmts, more_stmts, count_s, rose_e, rose_t, rose_s, roses_s, rose_l}
use Rattle.spec.specs.Proper.{Proper, ProperTarget, ProperStmt, ProperStmts}
use Rattle.spec.specs.Meaning.{exprs_of, targets_of, stmt_by, stmt_of, list_of, stmts_of, lists_of}
use Rattle.spec.specs.declared.Sort.{Sort}
use Rattle.spec.specs.declared.Sort.TheVariants as sort
use Rattle.spec.proofs.Heads
use Rattle.spec.proofs.Heads.{headed_pay, headed_parts}
use Rattle.spec.proofs.Heads.{header_again, kind_of_header, detail_of_header, StmtHead, stmt_head_lem, Payload}
use Rattle.spec.proofs.Heads.{no_word, word, payload_view, Many, no_part, part, many_view}
use Rattle.spec.proofs.Meanings.{rose_expr, proper_expr, expr_again}
use Rattle.spec.proofs.Targets.{single_target, rose_target, proper_target, target_again}

-- ---- words, what they mean, and the words of that

-- as many statements as trees
count_stmts : (ps : Roses) → count_s (stmts_of ps) ≡ count ps
unfolding stmts_of
count_stmts nil = refl
count_stmts (cons p ps) = ap suc (count_stmts ps)

-- each part that is a list has its words again
abbrev ListsAgain : Roses → Type 0
ListsAgain nil = Unit {0}
ListsAgain (cons p ps) = (Valid sort.List p → rose_l (list_of p) ≡ p) × ListsAgain ps

-- three parts at once
three : (own : List ℕ) {a b c x y z : Rose} → a ≡ x → b ≡ y → c ≡ z
    → node sort.Stmt own (cons a (cons b (cons c nil))) ≡ node sort.Stmt own (cons x (cons y (cons z nil)))
three own e f g = cc

-- a statement made of an accepted header, a payload and parts; its lists are done
stmt_by_lem : {k d : ℕ} → StmtHead k d → (pay : List ℕ) (ps : Roses)
    → Payload d (rules k d (get_or pay 0 0)) pay → Many (part_count k d (get_or pay 0 0)) ps → Valids (part_sort k) 0 ps
    → ListsAgain ps
    → rose_s (stmt_by k d pay (exprs_of ps) (targets_of ps) (lists_of ps)) ≡ node sort.Stmt (header k d ∷ pay) ps
unfolding exprs_of targets_of lists_of
stmt_by_lem Heads.possible_gc pay ps no_word no_part v back = refl
stmt_by_lem Heads.return pay ps no_word (part {p} no_part) v back =
    ap (λ x. node sort.Stmt (33 ∷ []) (cons x nil)) (rose_expr p v.0)
stmt_by_lem Heads.expr pay ps no_word (part {p} no_part) v back =
    ap (λ x. node sort.Stmt (34 ∷ []) (cons x nil)) (rose_expr p v.0)
stmt_by_lem Heads.assign pay ps (word {w} e no_word) (part {p} (part {p = q} no_part)) v back =
    ap₂ (λ x y. node sort.Stmt (35 ∷ w ∷ []) (cons x (cons y nil))) (rose_target p v.0) (rose_expr q v.1.0)
stmt_by_lem (Heads.assign_modify {d}) pay ps no_word (part {p} (part {p = q} no_part)) v back =
    ap₂ (λ x y. node sort.Stmt (header 36 d ∷ []) (cons x (cons y nil)))
    (rose_target p (single_target p v.0)) (rose_expr q v.1.0)
stmt_by_lem Heads.if_stmt pay ps no_word (part {p} (part (part no_part))) v back =
    three (37 ∷ []) (rose_expr p v.0) (back.1.0 v.1.0) (back.1.1.0 v.1.1.0)
stmt_by_lem Heads.for pay ps no_word (part {p} (part {p = q} (part no_part))) v back =
    three (38 ∷ []) (rose_target p v.0) (rose_expr q v.1.0) (back.1.1.0 v.1.1.0)
stmt_by_lem Heads.break pay ps no_word no_part v back = refl
stmt_by_lem Heads.continue pay ps no_word no_part v back = refl

-- one node, and one list
stmt_own : (t : Sort) (h : ℕ) (pay : List ℕ) (ps : Roses) → Valid sort.Stmt (node t (h ∷ pay) ps) → ListsAgain ps
    → rose_s (stmt_of (node t (h ∷ pay) ps)) ≡ node t (h ∷ pay) ps
unfolding stmt_of
stmt_own t h pay ps v back =
    let k = kind_in h in
    let d = detail_in h in
    stmt_by_lem (stmt_head_lem k d v.1.head) pay ps (headed_pay v.1) (headed_parts v.1) v.2 back
    ∙ ap₂ (λ s n. node s (n ∷ pay) ps) (sym v.0) (sym (header_again h))

list_own : (t : Sort) (h : ℕ) (pay : List ℕ) (ps : Roses) → Valid sort.List (node t (h ∷ pay) ps)
    → roses_s (stmts_of ps) ≡ ps → rose_l (list_of (node t (h ∷ pay) ps)) ≡ node t (h ∷ pay) ps
unfolding list_of
list_own t h pay ps v back =
    ap₂ (λ n x. node sort.List (n ∷ []) x) (count_stmts ps ∙ v.1.many) back
    ∙ ap₂ (λ s l. node s (h ∷ l) ps) (sym v.0) (sym v.1.alone)

mutual
  unfolding stmts_of

  pub rose_stmt : (r : Rose) → Valid sort.Stmt r → rose_s (stmt_of r) ≡ r
  rose_stmt (node t [] ps) v = absurd v.1
  rose_stmt (node t (h ∷ pay) ps) v = stmt_own t h pay ps v (rose_lists ps)

  pub rose_list : (r : Rose) → Valid sort.List r → rose_l (list_of r) ≡ r
  rose_list (node t [] ps) v = absurd v.1
  rose_list (node t (h ∷ pay) ps) v = list_own t h pay ps v (rose_stmts ps 0 v.2)

  pub rose_stmts : (ps : Roses) (i : ℕ) → Valids (λ i. sort.Stmt) i ps → roses_s (stmts_of ps) ≡ ps
  rose_stmts nil i v = refl
  rose_stmts (cons p ps) i v = ap₂ cons (rose_stmt p v.0) (rose_stmts ps (suc i) v.1)

  rose_lists : (ps : Roses) → ListsAgain ps
  rose_lists nil = tt
  rose_lists (cons p ps) = (λ v. rose_list p v, rose_lists ps)

-- what words mean is proper
abbrev ListsProper : Roses → Type 0
ListsProper nil = Unit {0}
ListsProper (cons p ps) = (Valid sort.List p → ProperStmts (list_of p)) × ListsProper ps

proper_by : {k d : ℕ} → StmtHead k d → (pay : List ℕ) (ps : Roses)
    → Many (part_count k d (get_or pay 0 0)) ps → Valids (part_sort k) 0 ps → ListsProper ps
    → ProperStmt (stmt_by k d pay (exprs_of ps) (targets_of ps) (lists_of ps))
unfolding exprs_of targets_of lists_of
proper_by Heads.return pay ps (part {p} no_part) v each = proper_expr p v.0
proper_by Heads.expr pay ps (part {p} no_part) v each = proper_expr p v.0
proper_by Heads.assign pay ps (part {p} (part {p = q} no_part)) v each =
    (proper_target p v.0, proper_expr q v.1.0)
proper_by Heads.assign_modify pay ps (part {p} (part {p = q} no_part)) v each =
    (proper_target p (single_target p v.0), proper_expr q v.1.0)
proper_by Heads.if_stmt pay ps (part {p} (part (part no_part))) v each =
    (proper_expr p v.0, each.1.0 v.1.0, each.1.1.0 v.1.1.0)
proper_by Heads.for pay ps (part {p} (part {p = q} (part no_part))) v each =
    (proper_target p v.0, proper_expr q v.1.0, each.1.1.0 v.1.1.0)
proper_by _ pay ps m v each = tt

proper_own : (t : Sort) (h : ℕ) (pay : List ℕ) (ps : Roses) → Valid sort.Stmt (node t (h ∷ pay) ps) → ListsProper ps
    → ProperStmt (stmt_of (node t (h ∷ pay) ps))
unfolding stmt_of
proper_own t h pay ps v each =
    proper_by (stmt_head_lem (kind_in h) (detail_in h) v.1.head) pay ps
    (headed_parts v.1) v.2 each

mutual
  unfolding stmts_of list_of

  pub proper_stmt : (r : Rose) → Valid sort.Stmt r → ProperStmt (stmt_of r)
  proper_stmt (node t [] ps) v = absurd v.1
  proper_stmt (node t (h ∷ pay) ps) v = proper_own t h pay ps v (proper_lists ps)

  pub proper_list : (r : Rose) → Valid sort.List r → ProperStmts (list_of r)
  proper_list (node t [] ps) v = absurd v.1
  proper_list (node t (h ∷ pay) ps) v = proper_stmts ps 0 v.2

  pub proper_stmts : (ps : Roses) (i : ℕ) → Valids (λ i. sort.Stmt) i ps → ProperStmts (stmts_of ps)
  proper_stmts nil i v = tt
  proper_stmts (cons p ps) i v = (proper_stmt p v.0, proper_stmts ps (suc i) v.1)

  proper_lists : (ps : Roses) → ListsProper ps
  proper_lists nil = tt
  proper_lists (cons p ps) = (λ v. proper_list p v, proper_lists ps)

-- ---- a proper statement's words mean that statement

-- AssignModify, whose header has a detail
modify_back : (op : ℕ) (t : Target) (e : Expr) → ProperTarget t → Proper e
    → Valid sort.Stmt (rose_s (assign_modify op t e)) → stmt_of (rose_s (assign_modify op t e)) ≡ assign_modify op t e
unfolding stmt_of exprs_of targets_of
modify_back op t e p q v =
    let ps = cons (rose_t t) (cons (rose_e e) nil) in
    let kind = kind_of_header 36 op (omega arith) in
    let w : Valids (part_sort 36) 0 ps = subst (λ k. Valids (part_sort k) 0 ps) kind v.2 in
    ap₂ (λ k d. stmt_by k d [] (exprs_of ps) (targets_of ps) (lists_of ps)) kind (detail_of_header 36 op (omega arith))
    ∙ ap₂ (assign_modify op) (target_again t p (single_target (rose_t t) w.0)) (expr_again e q w.1.0)

mutual
  unfolding exprs_of targets_of stmt_of list_of stmts_of lists_of

  pub stmt_again : (s : Stmt) → ProperStmt s → Valid sort.Stmt (rose_s s) → stmt_of (rose_s s) ≡ s
  stmt_again (return e) p v = ap return (expr_again e p v.2.0)
  stmt_again (expr e) p v = ap expr (expr_again e p v.2.0)
  stmt_again (assign w t e) p v =
      ap₂ (assign w) (target_again t p.0 v.2.0) (expr_again e p.1 v.2.1.0)
  stmt_again (assign_modify op t e) p v = modify_back op t e p.0 p.1 v
  stmt_again (if_stmt c t f) p v =
      let x = expr_again c p.0 v.2.0 in
      let y = stmts_again t 0 p.1 v.2.1.0.2 in
      let z = stmts_again f 0 p.2 v.2.1.1.0.2 in
      ap₂ (λ (e : Expr) (ss : Stmts). if_stmt e ss (stmts_of (roses_s f))) x y ∙ ap (if_stmt c t) z
  stmt_again (for t e b) p v =
      let x = target_again t p.0 v.2.0 in
      let y = expr_again e p.1 v.2.1.0 in
      let z = stmts_again b 0 p.2 v.2.1.1.0.2 in
      ap₂ (λ (a : Target) (i : Expr). for a i (stmts_of (roses_s b))) x y ∙ ap (for t e) z
  stmt_again _ p v = refl

  pub stmts_again : (ss : Stmts) (i : ℕ) → ProperStmts ss → Valids (λ i. sort.Stmt) i (roses_s ss)
      → stmts_of (roses_s ss) ≡ ss
  stmts_again no_stmts i p v = refl
  stmts_again (more_stmts s ss) i p v =
      ap₂ more_stmts (stmt_again s p.0 v.0) (stmts_again ss (suc i) p.1 v.1)

-- and a proper rule's words mean that rule
pub list_again : (ss : Stmts) → ProperStmts ss → Valid sort.List (rose_l ss) → list_of (rose_l ss) ≡ ss
unfolding list_of
list_again ss p v = stmts_again ss 0 p v.2
