-- "Stored blocks read and written undo each other" (condition 2): reading what is written gives the words, for 1 to
-- 16,128 words below 2^32, and writing what is read gives the bytes, for every file that is not refused.
-- Assumes nothing.
use mathlib.Core.Bool.{Bool, true, cond, ◌&&◌}
use mathlib.Core.List.{List, [], ◌∷◌, ◌++◌, append-nil}
use mathlib.Core.Path.{◌≡◌, ap, ap₂, sym, subst, ◌∙◌}
use Prim.Native.Nat.{ℕ, zero, suc, ◌+◌, ◌-◌, ◌*◌, ◌/◌, ◌%◌, ◌^◌, ◌≤◌, ◌<◌}
use native.Mathlib.Omega.{arith}
use borrow.Author.Tests.{eq-eqb, le-leb, eqb-true, leb-true}
use lib.Dec.{leb}
use lib.ListN.{length, get_or, take, drop, replicate, length-take}
use Rattle.std.proofs.lemmas.Grind.{common_steps}
use Rattle.spec.specs.Outcome.{Outcome, given, refused, ◌then◌, fitted}
use Rattle.spec.specs.Blocks.{words_of, bytes_of, body, blocks, block_count, stored, count_right}
use Rattle.spec.specs.Blocks.{write_blocks, length_right, judged_all, all_zero, unused, rule_words, file_judged}
use Rattle.spec.specs.Blocks.{read_blocks}
use Rattle.spec.proofs.Bytes.{Below, length_bytes_of, length_words_of, words_of_bytes_of, bytes_of_words_of}
use Rattle.spec.proofs.Outcomes.{both, passed, fitted_given}
use Rattle.spec.proofs.Files.{written_judged, written_rule, written_unused, length_blocks, length_rule}
use Rattle.spec.proofs.Files.{used_last, blocks_again}

-- ---- every word of a written block is below 2^32

module _ {bound : ℕ} where
  below_append : {p q : List ℕ} → Below bound p → Below bound q → Below bound (p ++ q)
  below_append a b = grind (arith, common_steps)

  below_cons : {x : ℕ} {xs : List ℕ} → x < bound → Below bound xs → Below bound (x ∷ xs)
  below_cons {x} {xs} h b =
      record { each = λ k. elim k as (λ k. get_or (x ∷ xs) k 0 < bound) [ zero ↦ h | suc j ↦ b.each j ] }

  pub below_drop : (n : ℕ) {xs : List ℕ} → Below bound xs → Below bound (drop n xs)
  below_drop n b = grind (arith, common_steps)

below_nil : {bound : ℕ} → 0 < bound → Below bound []
below_nil h = record { each = λ k. h }

below_zeros : (n : ℕ) → Below (2 ^ 32) (replicate n 0)
below_zeros zero = below_nil (omega arith)
below_zeros (suc n) = below_cons (omega arith) (below_zeros n)

pub below_take : (n : ℕ) {xs : List ℕ} → Below (2 ^ 32) xs → Below (2 ^ 32) (take n xs)
below_take n b = grind (arith, common_steps)

pub below_body : (number : ℕ) (ws : List ℕ) → number < 65536 → length ws ≤ 126 → Below (2 ^ 32) ws
    → Below (2 ^ 32) (body number ws)
below_body number ws low few b = below_cons (omega arith) (below_append b (below_zeros (126 - length ws)))

below_blocks : (count number : ℕ) (ws : List ℕ) → number + count ≤ 65536 → Below (2 ^ 32) ws
    → Below (2 ^ 32) (blocks count number ws)
unfolding blocks
below_blocks zero number ws low b = below_nil (omega arith)
below_blocks (suc left) number ws low b =
    let few : length (take 126 ws) ≤ 126 = simp length-take (omega arith) in
    below_append
    (below_append (below_body number (take 126 ws) (omega arith) few (below_take 126 b))
    (below_cons (omega arith) (below_nil (omega arith))))
    (below_blocks left (suc number) (drop 126 ws) (omega arith) (below_drop 126 b))

-- ---- reading what is written

module _ (ws : List ℕ) (b : Below (2 ^ 32) ws) (some : 1 ≤ length ws) (most : length ws ≤ 16128) where
  count_before : block_count (length ws) ≡ suc (block_count (length ws) - 1)
  count_before = omega arith

  pub length_stored : length (stored ws) ≡ 512 * block_count (length ws)
  length_stored =
      length_bytes_of (blocks (block_count (length ws)) 0 ws)
      ∙ omega (arith, length_blocks (block_count (length ws)) 0 ws)

  stored_words : words_of (stored ws) ≡ blocks (block_count (length ws)) 0 ws
  unfolding words_of
  stored_words =
      ap words_of (sym (append-nil (stored ws)))
      ∙ words_of_bytes_of (blocks (block_count (length ws)) 0 ws) []
      (below_blocks (block_count (length ws)) 0 ws (omega arith) b)
      ∙ append-nil (blocks (block_count (length ws)) 0 ws)

  stored_judged : file_judged (block_count (length ws)) (blocks (block_count (length ws)) 0 ws) ≡ given tt
  stored_judged =
      let n = block_count (length ws) in
      let j : judged_all n 0 (blocks n 0 ws) ≡ given tt =
      subst (λ (k : ℕ). judged_all k 0 (blocks k 0 ws) ≡ given tt) (sym count_before)
      (written_judged (n - 1) 0 ws (omega arith) (omega arith) (omega arith)) in
      let u : all_zero (unused (drop (128 * (n - 1)) (blocks n 0 ws))) ≡ true =
      subst (λ (k : ℕ). all_zero (unused (drop (128 * (n - 1)) (blocks k 0 ws))) ≡ true) (sym count_before)
      (written_unused (n - 1) 0 ws (omega arith)) in
      ap₂ (λ (o : Outcome (Unit {0})) (t : Bool). o then cond t (given tt) (refused 4 (512 * (n - 1)))) j u

  stored_rule : rule_words (block_count (length ws)) (blocks (block_count (length ws)) 0 ws) ≡ ws
  stored_rule =
      subst (λ (k : ℕ). rule_words k (blocks k 0 ws) ≡ ws) (sym count_before)
      (written_rule (block_count (length ws) - 1) 0 ws (omega arith) (omega arith) (omega arith))

  pub read_of_write : (room : ℕ) → read_blocks (stored ws) room ≡ fitted room ws
  read_of_write room =
      let n = block_count (length ws) in
      let whole : length (stored ws) / 512 ≡ n = omega (arith, length_stored) in
      let right : length_right (length (stored ws)) ≡ true =
      ap₂ ◌&&◌ (le-leb 1 (length (stored ws)) (omega (arith, length_stored)))
      (ap₂ ◌&&◌ (le-leb (length (stored ws)) 65536 (omega (arith, length_stored)))
      (eq-eqb (length (stored ws) % 512) 0 (omega (arith, length_stored)))) in
      ap (λ (t : Bool). cond t (file_judged (length (stored ws) / 512) (words_of (stored ws))
      then fitted room (rule_words (length (stored ws) / 512) (words_of (stored ws))))
      (refused 1 (length (stored ws)))) right
      ∙ ap₂ (λ (k : ℕ) (l : List ℕ). file_judged k l then fitted room (rule_words k l)) whole stored_words
      ∙ ap₂ (λ (o : Outcome (Unit {0})) (l : List ℕ). o then fitted room l) stored_judged stored_rule

-- ---- writing what is read

module _ (file : List ℕ) (bytes : Below 256 file) (room : ℕ) (ws : List ℕ) (e : read_blocks file room ≡ given ws) where
  right : length_right (length file) ≡ true
  right = (passed (length_right (length file)) _ 1 (length file) e).0

  some_bytes : 1 ≤ length file
  some_bytes = leb-true 1 (length file) (both (leb 1 (length file)) _ right).0

  most_bytes : length file ≤ 65536
  most_bytes =
      leb-true (length file) 65536 (both (leb (length file) 65536) _ (both (leb 1 (length file)) _ right).1).0

  whole_blocks : length file % 512 ≡ 0
  whole_blocks = eqb-true _ 0 (both (leb (length file) 65536) _ (both (leb 1 (length file)) _ right).1).1

  read_parts_lem : (file_judged (length file / 512) (words_of file) ≡ given tt)
      × (fitted room (rule_words (length file / 512) (words_of file)) ≡ given ws)
  read_parts_lem = grind (arith, common_steps)

  count_earlier : length file / 512 ≡ suc (length file / 512 - 1)
  count_earlier = omega (arith, some_bytes, whole_blocks)

  pub rule_read : rule_words (length file / 512) (words_of file) ≡ ws
  rule_read = (fitted_given room (rule_words (length file / 512) (words_of file)) read_parts_lem.1).1

  all_judged : judged_all (suc (length file / 512 - 1)) 0 (words_of file) ≡ given tt
  all_judged = grind (arith, common_steps)

  clean : all_zero (unused (drop (128 * (length file / 512 - 1)) (words_of file))) ≡ true
  clean = grind (arith, common_steps)

  words_length : length (words_of file) ≡ 128 * suc (length file / 512 - 1)
  words_length = length_words_of file ∙ omega (arith, some_bytes, whole_blocks)

  rule_again : rule_words (suc (length file / 512 - 1)) (words_of file) ≡ ws
  rule_again = ap (λ (k : ℕ). rule_words k (words_of file)) (sym count_earlier) ∙ rule_read

  pub read_length : (1 ≤ length ws) × (length ws ≤ 16128) × (block_count (length ws) ≡ length file / 512)
  read_length =
      let l = ap length (sym rule_again)
      ∙ length_rule (length file / 512 - 1) (words_of file) (omega (arith, words_length)) all_judged in
      let u = used_last (length file / 512 - 1) 0 (words_of file) all_judged in (
        omega (arith, l, u.0, u.1),
        omega (arith, l, u.0, u.1, most_bytes),
        omega (arith, l, u.0, u.1, some_bytes, whole_blocks),
      )

  pub stored_again : stored ws ≡ file
  stored_again =
      ap (λ (k : ℕ). bytes_of (blocks k 0 ws)) (read_length.2 ∙ count_earlier)
      ∙ ap (λ (l : List ℕ). bytes_of (blocks (suc (length file / 512 - 1)) 0 l)) (sym rule_again)
      ∙ ap bytes_of (blocks_again (length file / 512 - 1) 0 (words_of file) words_length all_judged clean)
      ∙ bytes_of_words_of file bytes (omega (arith, whole_blocks))

  pub write_of_read : (space : ℕ) → write_blocks ws space ≡ fitted space file
  write_of_read space =
      let c : count_right (length ws) ≡ true =
      ap₂ ◌&&◌ (le-leb 1 _ read_length.0) (le-leb _ 16128 read_length.1) in
      ap (λ (t : Bool). cond t (fitted space (stored ws)) (refused 5 (length ws))) c ∙ ap (fitted space) stored_again
