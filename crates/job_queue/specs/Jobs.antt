-- Jobs, as they go out and as they come home.
use Rattle.std.specs.Prelude.{◌≡◌, ℕ, ◌*◌, ◌%◌, ◌^◌, ◌<◌, ◌≤◌, ◌==◌, List, map, count_by}
use Rattle.rel_pointer.specs.Bytes.{packed}
use Rattle.job_queue.specs.declared.job.Done.{Done}

-- what the job of a number gives: its square, modulo 2^64
abbrev pub result_of : ℕ → ℕ
result_of n = (n * n) % 2 ^ 64

-- the job of a number, done
abbrev pub done_of : ℕ → Done
done_of n = record { number = n; result = result_of n }

-- the number that a message is: its first eight bytes, the lowest first
abbrev pub number_of : List ℕ → ℕ
number_of message = packed message 0

-- how often a number is in a list
abbrev pub times : ℕ → List ℕ → ℕ
times n ns = count_by (λ m. m == n) ns

-- The jobs below count were done, each once, and no other: the number of each is once in the list, with the result that
-- the job's function gives
pub record AreDone (count : ℕ) (done : List Done) : Type 0 where
  pub once : (n : ℕ) → n < count → times n (map (λ d. d.number) done) ≡ 1
  pub others : (n : ℕ) → count ≤ n → times n (map (λ d. d.number) done) ≡ 0
  pub results : done ≡ map (λ d. done_of d.number) done
