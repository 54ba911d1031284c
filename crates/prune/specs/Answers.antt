-- What pruning is asked and what it leaves, and its answer as document 01 has it.
use Rattle.std.specs.Prelude.{Result, Ok, Err, List, ◌++◌, true, ◌≡◌, ℕ, ◌+◌, ◌-◌, ◌≤◌, ◌<◌, length, take, drop}
use Rattle.spec.specs.Outcome.{Outcome, given}
use Rattle.spec.specs.Blocks.{count_right}
use Rattle.spec.specs.Rose.{size, At}
use Rattle.spec.specs.Reading.{bind}
use Rattle.spec.specs.Tree.{Stmts, rose_l}
use Rattle.spec.specs.Proper.{ValidRule}
use Rattle.spec.specs.Meaning.{read_rule}
use Rattle.spec.specs.PassStmts.{optimize}
use Rattle.spec.specs.NothingDead.{NothingDead}
use Rattle.spec.specs.Foldable.{foldable_count}
use Rattle.spec.specs.Value.{Choice}
use Rattle.spec.specs.Running.{run_rule}
use Rattle.spec.specs.Pruning.{Pruned, told, result_after, work_after, work_words, pruned}
use Rattle.refusal.specs.declared.Refusal.{Refusal}
use Rattle.refusal.specs.declared.Refusal.TheVariants as refusal
use Rattle.refusal.specs.Answers.{outcome_by}
use Rattle.prune.specs.declared.entry.Counts.{Counts}
use Rattle.outer.specs.declared.Outer.{Outer}

-- what is answered
abbrev pub Answer : Type 0
Answer = Result Counts Refusal

-- the size and the foldable count, or the refusal's number and place
abbrev pub answer_of : Answer → Outcome (ℕ × ℕ)
answer_of r = outcome_by (λ (c : Counts). (c.size, c.foldable)) r

-- the answer and the lent words at exit are what the outcome says
pub record Met (outcome : Outcome Pruned) (work result : List ℕ) (r : Answer) (work-exit result-exit : List ℕ) : Type 0
  where
    pub answer : answer_of r ≡ told outcome
    pub result_is : result-exit ≡ result_after outcome result
    pub work_is : work-exit ≡ work_after outcome work

-- a rule stands at the start of the words
pub record Stood (ws : List ℕ) (ss : Stmts) : Type 0 where
  pub valid : ValidRule ss
  pub here : At ws 0 (rose_l ss)
  pub inside : size (rose_l ss) ≤ length ws

-- a rule of n words stands at the start of the words
pub record StoodSized (n : ℕ) (ws : List ℕ) : Type 0 where
  pub rule : Stmts
  pub stood : Stood ws rule
  pub whole : size (rose_l rule) ≡ n

-- demand 3: where an answer is given, the rule that stands in the words and the rule that stands in the result run
-- alike, for every choice, however deep or long the second one is
pub record Alike (ws : List ℕ) (r : Answer) (result-exit : List ℕ) : Type 0 where
  pub runs : (counts : Counts) → r ≡ Ok counts → (C : Choice) (ss rs : Stmts) → Stood ws ss
      → Stood result-exit rs → run_rule C rs ≡ run_rule C ss

-- 02, 2.7: where an answer is given, a rule stands in the result, of as many words as the answer says, and nothing dead
-- is left standing in whatever rule stands there, however deep or long it is
pub record LeftStanding (r : Answer) (result-exit : List ℕ) : Type 0 where
  pub stands : (counts : Counts) → r ≡ Ok counts → StoodSized counts.size result-exit
  pub none_dead : (counts : Counts) → r ≡ Ok counts → (rs : Stmts) → Stood result-exit rs → NothingDead rs

-- ---- words of a right count, and a rule that is accepted

pub record WordsAsk (words work : ℕ) : Type 0 where
  pub right : count_right words ≡ true
  pub exact : work ≡ work_words words

pub record RuleAsk (ws : List ℕ) (work : ℕ) : Type 0 where
  pub asked : WordsAsk (length ws) work
  pub rule : Stmts
  pub read : read_rule ws ≡ given rule

-- refusals 7 to 11, or the words of the pruned rule
pub record WordsDone (ws result : List ℕ) (r : Answer) (result-exit : List ℕ) : Type 0 where
  pub answer : answer_of r ≡ told (bind (read_rule ws) (pruned (length result)))
  pub result_is : result-exit ≡ result_after (bind (read_rule ws) (pruned (length result))) result

-- a rule of n words at the start, with the work words of a rule above it
pub record PassAsk (w : List ℕ) (n : ℕ) : Type 0 where
  pub rule : Stmts
  pub valid : ValidRule rule
  pub here : At w 0 (rose_l rule)
  pub ends : n ≡ size (rose_l rule)
  pub exact : length w ≡ work_words n
  pub few : n ≤ 16128

pub record PassDone (w v : List ℕ) (n : ℕ) (x : Outer) : Type 0 where
  pub right : (ss : Stmts) → ValidRule ss → At w 0 (rose_l ss) → n ≡ size (rose_l ss)
      → At v n (rose_l (optimize ss)) × (x.end ≡ n + size (rose_l (optimize ss))) × (x.foldable ≡ foldable_count ss)
  pub order : n ≤ x.end
  pub inside : x.end ≤ length v

-- ---- the words of the pruned rule, from n up to `end`

pub record GiveAsk (work n end : ℕ) : Type 0 where
  pub order : n ≤ end
  pub inside : end ≤ work

-- they are told to be too many for the result, or stand at its start
pub record GiveDone (w : List ℕ) (n : ℕ) (x : Outer) (result : List ℕ) (r : Answer) (after : List ℕ) : Type 0 where
  pub short : length result < x.end - n → (r ≡ Err (refusal.ShortResult (x.end - n))) × (after ≡ result)
  pub enough : x.end - n ≤ length result
      → (r ≡ Ok (record { size = x.end - n; foldable = x.foldable }))
      × (after ≡ take (x.end - n) (drop n w) ++ drop (length (take (x.end - n) (drop n w))) result)
