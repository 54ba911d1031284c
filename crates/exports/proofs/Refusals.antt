-- Every refusal has a number from 1 to 11, and that of the counts of truths has 19, so that 0 is returned exactly where
-- an answer is given. So demand 3, and that nothing dead is left standing, are said by the number that is returned.
-- Assumes nothing.
use mathlib.Core.Bool.{Bool, true, false, cond}
use mathlib.Core.List.{List, [], ◌∷◌}
use mathlib.Core.Path.{◌≡◌, refl, ap, sym, subst, ◌∙◌}
use Prim.Native.Nat.{ℕ, zero, suc, ◌+◌, ◌-◌, ◌*◌, ◌/◌, ◌≤◌}
use native.Mathlib.Omega.{arith}
use lib.Dec.{eqb, ltb}
use lib.ListN.{length, get_or, drop}
use Rattle.spec.specs.Outcome.{Outcome, given, refused, ◌then◌, fitted}
use Rattle.spec.specs.Blocks.{count_right, head_right, block_judged, judged_all, file_judged, all_zero, unused}
use Rattle.spec.specs.Blocks.{unused_judged}
use Rattle.spec.specs.Blocks.{length_right, rule_words, words_of, checksum, read_blocks, stored, write_blocks}
use Rattle.spec.specs.Rose.{Rose}
use Rattle.spec.specs.Grammar as Grammar
use Rattle.spec.specs.Grammar.{kind_in, detail_in, within, Rule, word_right, rules, part_count, part_sort}
use Rattle.spec.specs.Reading.{Got, bind, map_got, read_pay, read_parts, read_list, read_any, read_body, read_node}
use Rattle.spec.specs.Reading.{read_at, whole, read_words}
use Rattle.spec.specs.Tree.{Expr, rose_l}
use Rattle.spec.specs.Rose.{enc}
use Rattle.spec.specs.Meaning.{read_rule, read_expr}
use Rattle.spec.specs.PassStmts.{optimize}
use Rattle.spec.specs.Verdict.{verdict_on}
use Rattle.spec.specs.Inlining.{inline_on}
use Rattle.spec.specs.Pruning.{Pruned, prune_on, work_words, told}
use Rattle.spec.specs.declared.Sort.{Sort}
use Rattle.spec.specs.declared.Sort.TheVariants as sort
use Rattle.prune.specs.Answers as pruneAnswers
use Rattle.prune.specs.Answers.{Answer, answer_of}
use Rattle.std.proofs.Common.{Ok, Err}
use Rattle.counting.specs.Counts.{most_nodes, truth_counts_on}
use Rattle.values.specs.Told.{number_of, values_of, laid, Told, pair_values}
use Rattle.prune.specs.declared.entry.Counts.{Counts}
use Rattle.exports.specs.Told.{Alike, LeftStanding}

-- a refusal's number is from `low` to `high`
abbrev pub InRange : ℕ → ℕ → {A : Type 0} → Outcome A → Type 0
InRange low high (given a) = Unit {0}
InRange low high (refused number place) = (low ≤ number) × (number ≤ high)

pub record Between (low high : ℕ) {A : Type 0} (o : Outcome A) : Type 0 where
  pub range : InRange low high o

-- it is one of document 01's
abbrev pub Numbered : {A : Type 0} → Outcome A → Type 0
Numbered o = Between 1 11 o

pub record Given {A : Type 0} (o : Outcome A) : Type 0 where
  pub what : A
  pub so : o ≡ given what

pub given_of_zero : {A : Type 0} {low high : ℕ} (o : Outcome A) → 1 ≤ low → Between low high o → number_of o ≡ 0
    → Given o
given_of_zero (given a) some n e = record { what = a; so = refl }
given_of_zero (refused number place) some n e = absurd (omega (arith, n.range.0, e))

by_cond : {A : Type 0} {low high : ℕ} (b : Bool) {x y : Outcome A} → Between low high x → Between low high y
    → Between low high (cond b x y)
by_cond true p q = p
by_cond false p q = q

module _ {A : Type 0} where
  by_bind : {B : Type 0} (o : Outcome A) {f : A → Outcome B} → Numbered o → ((a : A) → Numbered (f a))
      → Numbered (bind o f)
  by_bind (given a) n m = m a
  by_bind (refused number place) n m = record { range = n.range }

  by_then : {B : Type 0} (o : Outcome A) {p : Outcome B} → Numbered o → Numbered p → Numbered (o then p)
  by_then (given a) n m = m
  by_then (refused number place) n m = record { range = n.range }

  by_map : {B : Type 0} (f : A → B) (o : Outcome (Got A)) → Numbered o → Numbered (map_got f o)
  by_map f (given g) n = record { range = tt }
  by_map f (refused number place) n = record { range = n.range }

-- ---- reading words: 5 and 7 to 10

abbrev Reader : Type 0
Reader = Sort → ℕ → Outcome (Got Rose)

pay : (ws : List ℕ) (d : ℕ) (rs : List Rule) (p : ℕ) → Numbered (read_pay ws d rs p)
unfolding read_pay
pay ws d [] p = record { range = tt }
pay ws d (r ∷ rs) p =
    by_cond (ltb p (length ws))
    (by_cond (word_right r d (get_or ws p 0)) (by_map _ (read_pay ws d rs (p + 1)) (pay ws d rs (p + 1)))
    (record { range = (omega arith, omega arith) }))
    (record { range = (omega arith, omega arith) })

module _ (read : Reader) (numbered : (s : Sort) (at : ℕ) → Numbered (read s at)) where
  parts : (sorts : ℕ → Sort) (n i p : ℕ) → Numbered (read_parts read sorts n i p)
  unfolding read_parts
  parts sorts zero i p = record { range = tt }
  parts sorts (suc n) i p =
      by_bind (read (sorts i) p) (numbered (sorts i) p)
      (λ g. by_map _ (read_parts read sorts n (suc i) g.next) (parts sorts n (suc i) g.next))

  list : (ws : List ℕ) (at : ℕ) → Numbered (read_list read ws at)
  unfolding read_list
  list ws at =
      by_cond (ltb at (length ws))
      (by_map _ (read_parts read (λ i. sort.Stmt) (get_or ws at 0) 0 (at + 1))
      (parts (λ i. sort.Stmt) (get_or ws at 0) 0 (at + 1)))
      (record { range = (omega arith, omega arith) })

  any : (ws : List ℕ) (s : Sort) (at : ℕ) → Numbered (read_any read ws s at)
  any ws sort.Expr at = numbered sort.Expr at
  any ws sort.Target at = numbered sort.Target at
  any ws sort.Single at = numbered sort.Single at
  any ws sort.Stmt at = numbered sort.Stmt at
  any ws sort.List at = list ws at

  body : (ws : List ℕ) (s : Sort) (h at : ℕ) → Numbered (read_body read ws s h at)
  unfolding read_body
  body ws s h at =
      by_bind (read_pay ws (detail_in h) (rules (kind_in h) (detail_in h) (get_or ws (at + 1) 0)) (at + 1))
      (pay ws (detail_in h) (rules (kind_in h) (detail_in h) (get_or ws (at + 1) 0)) (at + 1))
      (λ g. by_map _ _
      (parts (part_sort (kind_in h)) (part_count (kind_in h) (detail_in h) (get_or ws (at + 1) 0)) 0 g.next))

node : (levels : ℕ) (ws : List ℕ) (s : Sort) (at : ℕ) → Numbered (read_node levels ws s at)
unfolding read_node
node zero ws s at =
    by_cond (ltb at (length ws)) (record { range = (omega arith, omega arith) })
    (record { range = (omega arith, omega arith) })
node (suc levels) ws s at =
    by_cond (ltb at (length ws))
    (by_cond (Grammar.head_right s (kind_in (get_or ws at 0)) (detail_in (get_or ws at 0)))
    (body (read_any (read_node levels ws) ws) (any (read_node levels ws) (node levels ws) ws) ws s (get_or ws at 0) at)
    (record { range = (omega arith, omega arith) }))
    (record { range = (omega arith, omega arith) })

all : (ws : List ℕ) (o : Outcome (Got Rose)) → Numbered o → Numbered (whole ws o)
all ws (given g) n =
    by_cond (ltb g.next (length ws)) (record { range = (omega arith, omega arith) }) (record { range = tt })
all ws (refused number place) n = record { range = n.range }

words : (s : Sort) (ws : List ℕ) → Numbered (read_words s ws)
words s ws =
    by_cond (count_right (length ws))
    (all ws (read_at 200 ws s 0) (any (read_node 200 ws) (node 200 ws) ws s 0))
    (record { range = (omega arith, omega arith) })

-- ---- what the entry points give

pub verdict_numbered : {A : Type 0} (f : Expr → A) (ws : List ℕ) → Numbered (verdict_on f ws)
verdict_numbered f ws =
    by_bind (read_expr ws) (by_bind (read_words sort.Expr ws) (words sort.Expr ws) (λ r. record { range = tt }))
    (λ e. record { range = tt })

pub inline_numbered : (params : ℕ) (positional star : Bool) (variables : ℕ) (ws : List ℕ)
    → Numbered (inline_on params positional star variables ws)
inline_numbered params positional star variables ws =
    by_bind (read_rule ws) (by_bind (read_words sort.List ws) (words sort.List ws) (λ r. record { range = tt }))
    (λ ss. record { range = tt })

fits : (room : ℕ) (xs : List ℕ) → Numbered (fitted room xs)
fits room xs = by_cond (ltb room (length xs)) (record { range = (omega arith, omega arith) }) (record { range = tt })

pub prune_numbered : (ws : List ℕ) (work room : ℕ) → Numbered (prune_on ws work room)
prune_numbered ws work room =
    by_cond (count_right (length ws))
    (by_cond (ltb work (work_words (length ws))) (record { range = (omega arith, omega arith) })
    (by_bind (read_rule ws) (by_bind (read_words sort.List ws) (words sort.List ws) (λ r. record { range = tt }))
    (λ ss. by_bind (fitted room (enc (rose_l (optimize ss)))) (fits room (enc (rose_l (optimize ss))))
    (λ xs. record { range = tt }))))
    (record { range = (omega arith, omega arith) })

pub write_numbered : (ws : List ℕ) (room : ℕ) → Numbered (write_blocks ws room)
write_numbered ws room =
    by_cond (count_right (length ws)) (fits room (stored ws)) (record { range = (omega arith, omega arith) })

block_numbered : (last : Bool) (number : ℕ) (ws : List ℕ) → Numbered (block_judged last number ws)
block_numbered last number ws =
    by_cond (head_right last number (get_or ws 0 0))
    (by_cond (eqb (checksum _) (get_or ws 127 0)) (record { range = tt })
    (record { range = (omega arith, omega arith) }))
    (record { range = (omega arith, omega arith) })

blocks_numbered : (count number : ℕ) (ws : List ℕ) → Numbered (judged_all count number ws)
unfolding judged_all
blocks_numbered zero number ws = record { range = tt }
blocks_numbered (suc left) number ws =
    by_then (block_judged (eqb left 0) number ws) (block_numbered (eqb left 0) number ws)
    (blocks_numbered left (suc number) (drop 128 ws))

unused_numbered : (number : ℕ) (ws : List ℕ) → Numbered (unused_judged number ws)
unused_numbered number ws =
    by_cond (all_zero (unused ws)) (record { range = tt }) (record { range = (omega arith, omega arith) })

file_numbered : (count : ℕ) (ws : List ℕ) → Numbered (file_judged count ws)
file_numbered count ws =
    by_then (judged_all count 0 ws) (blocks_numbered count 0 ws)
    (unused_numbered (count - 1) (drop (128 * (count - 1)) ws))

pub read_numbered : (file : List ℕ) (room : ℕ) → Numbered (read_blocks file room)
read_numbered file room =
    by_cond (length_right (length file))
    (by_then (file_judged (length file / 512) (words_of file)) (file_numbered (length file / 512) (words_of file))
    (fits room (rule_words (length file / 512) (words_of file))))
    (record { range = (omega arith, omega arith) })

pub truth_counts_numbered : (n : ℕ) → Between 19 19 (truth_counts_on n)
truth_counts_numbered n =
    by_cond (within 1 most_nodes n) (record { range = tt }) (record { range = (omega arith, omega arith) })

-- ---- demand 3 by the number that is returned

told_numbered : (o : Outcome Pruned) → Numbered o → Numbered (told o)
told_numbered (given p) n = record { range = tt }
told_numbered (refused number place) n = record { range = n.range }

-- where 0 is returned, an answer is given
answered : {before left : List ℕ} {r : ℕ} (ws : List ℕ) (work room : ℕ) (a : Answer)
    → answer_of a ≡ told (prune_on ws work room) → Told pair_values (answer_of a) before r left → r ≡ 0
    → (counts : Counts) × (a ≡ Ok counts)
answered ws work room (Ok counts) e t z = (counts, refl)
answered ws work room (Err refusal) e t z =
    let n = subst Numbered (sym e) (told_numbered (prune_on ws work room) (prune_numbered ws work room)) in
    absurd (omega (arith, n.range.0, t.number, z))

pub alike : {ws result-exit before left : List ℕ} {r : ℕ} (work room : ℕ) (a : Answer)
    → pruneAnswers.Alike ws a result-exit
    → answer_of a ≡ told (prune_on ws work room) → Told pair_values (answer_of a) before r left → Alike ws r result-exit
alike {ws} work room a same e t =
    record { runs = λ z. let (counts, g) = answered ws work room a e t z in same.runs counts g }

-- ---- what is left standing, by the number that is returned

-- the first value is the size
first_value : (size foldable : ℕ) (before : List ℕ) {n : ℕ} {ns : List ℕ}
    → laid (pair_values (size, foldable)) before ≡ n ∷ ns → size ≡ n
unfolding laid
first_value size foldable [] e = absurd (no_value e)
  where
    no_value : {n : ℕ} {ns : List ℕ} → [] ≡ n ∷ ns → ⊥
    no_value e = cc
first_value size foldable (o ∷ old) e = cc

pub left_standing : {result-exit before left : List ℕ} {r : ℕ} (ws : List ℕ) (work room : ℕ) (a : Answer)
    → pruneAnswers.LeftStanding a result-exit
    → answer_of a ≡ told (prune_on ws work room) → Told pair_values (answer_of a) before r left
    → LeftStanding r left result-exit
left_standing {before = before} ws work room a l e t = record {
  stands = λ z.
      let (counts, g) = answered ws work room a e t z in
      let s = l.stands counts g in
      let shown = ap (λ x. laid (values_of pair_values (answer_of x)) before) (sym g) ∙ sym t.values in record {
        rule = s.rule;
        stood = s.stood;
        whole = λ n ns q. s.whole ∙ first_value counts.size counts.foldable before (shown ∙ q);
      };
  none_dead = λ z. let (counts, g) = answered ws work room a e t z in l.none_dead counts g;
}
