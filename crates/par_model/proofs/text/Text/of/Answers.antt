use Rattle.std.proofs.Common.{◌≡◌, ◌≤◌, ◌-◌, ◌++◌, ◌∙◌, ℕ, List, arith, drop, length, replicate, length-append, length-drop}
use Rattle.std.proofs.Math.Seq.{drop-append_seam}
use Rattle.std.proofs.lemmas.List.{drop-replicate, length-replicate}
use Rattle.par_model.proofs.text.Text.of.Goals as goal

-- an array of zeros whose front is some bytes
filled : (n : ℕ) (bytes front : List ℕ) → front ≡ bytes → length bytes ≤ n
    → (length bytes ≤ n) × (length (front ++ drop (length bytes) (replicate n 0)) ≡ n) × (drop (length bytes) (front ++ drop (length bytes) (replicate n 0)) ≡ replicate (n - length bytes) 0)
filled n bytes front e fits = rw e (fits, omega (arith, fits, length-append {A = ℕ} bytes (drop (length bytes) (replicate n 0)), length-drop {A = ℕ} (length bytes) (replicate n 0), length-replicate {A = ℕ} n 0), drop-append_seam bytes (drop (length bytes) (replicate n 0)) ∙ drop-replicate (length bytes) n 0)

pub invariant_of-result : goal.invariant_of-result
invariant_of-result c = filled 248 c.args.bytes.now c.copy_from_slice.new.self c.copy_from_slice.ensures.after c.if-bytes-gt-LONGEST_TEXT.false
