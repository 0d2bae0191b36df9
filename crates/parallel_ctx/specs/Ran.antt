-- What the caller of a context learns when all tokens are home.
use Rattle.std.specs.Prelude.{◌≡◌, ◌<◌, ◌≤◌, ℕ, suc, List, [], ◌∷◌, Option, Some, None, IsSomeAnd, MatchOption, count_by, is_some, length, map}
use Rattle.std.specs.List.{AllZip}
use Rattle.agg_cell.specs.Cell.{stepped}
use Rattle.agg_table.specs.Calls.{AggEntry, Use}
use Rattle.agg_table.specs.declared.part.HashPart.{HashPart}
use Rattle.dsa_area.specs.Shown.{AreAll}
use Rattle.dshash_parts.specs.Ending.{IsOf, left_of, whole_of}
use Rattle.dshash_parts.specs.Legal.{PartitionLegal}
use Rattle.dshash_parts.specs.States.{fresh}
use Rattle.lock_book.specs.History.{IsLegal, calls_by}
use Rattle.par_model.specs.Plan.{Plan}
use Rattle.scan_claim.specs.Drawing.{IsDrawn}
use Rattle.scan_claim.specs.Shown.{blocks_of, lists_of}
use Rattle.parallel_ctx.specs.declared.home.Returned.{Returned}
use Rattle.parallel_ctx.specs.declared.home.Finished.{Finished}
use Rattle.parallel_ctx.specs.Queues.{IsQueue}
use Rattle.parallel_ctx.specs.Accounts.{Account, Heard, IsIdle, account_of, heard_of, use_by}
use Rattle.parallel_ctx.specs.Tokens.{AreNumbered, Prepared}

-- of a worker that came home: it did nothing if it did not start, and else kept its promise; its queues are home, with
-- all ends detached
pub record Finishes {E : Type 0} (did : Plan → ℕ → Account → E → Type 0) (uses : ℕ → Option Use) (plan : Plan) (blocks : ℕ) (draws : List ℕ) (r : Returned E) : Type 0 where
  pub done : MatchOption r.end (IsIdle (account_of uses draws r)) (λ e. did plan blocks (account_of uses draws r) e)
  pub errors : IsQueue r.errors
  pub tuples : IsQueue r.tuples

-- The histories of a table with this many participants: each is legal, and has no entries of others
pub record AreWhole (callers : ℕ) (history : ℕ → List AggEntry) : Type 0 where
  pub lawful : (i : ℕ) → i < 128 → IsLegal (λ _. PartitionLegal stepped i) fresh (history i)
  pub no_others : (i n : ℕ) → callers ≤ n → calls_by n (history i) ≡ []

-- What the caller learns: of each worker asked for, in order of their numbers, and of the lead what it drew and did. No
-- number was drawn twice. The passes of the table's area are one for each participant, in order
pub record Ran {E L : Type 0} (did : Plan → ℕ → Account → E → Type 0) (leads : Plan → ℕ → List ℕ → Option Use → List Heard → L → Type 0) (p : Prepared) (f : Finished E) (lead : L) : Type 0 where
  pub region : f.region ≡ p.shared.region
  pub own : List ℕ
  pub draws : List (List ℕ)
  pub lists : lists_of f.drawn ≡ own ∷ draws
  pub drawn : (n : ℕ) × IsDrawn (blocks_of p.shared.claims) (lists_of f.drawn) n
  pub workers : AllZip (Finishes did (use_by f) p.plan (blocks_of p.shared.claims)) draws f.workers.items
  pub led : leads p.plan (blocks_of p.shared.claims) own (use_by f 0) (map heard_of f.workers.items) lead
  pub numbers : AreNumbered 1 (map (λ w. w.number) f.workers.items)
  pub asked : length f.workers.items ≡ length p.hands
  pub launched : f.launched ≡ count_by (λ w. is_some w.end) f.workers.items
  pub table : (part : HashPart) → p.shared.hash ≡ Some part → IsSomeAnd f.table (λ c. AreWhole (suc (length p.hands)) (whole_of c) × (left_of c ≡ 128) × IsOf p.shared.region part.table c)
  pub no_table : p.shared.hash ≡ None → (f.table ≡ None) × (f.areas.items ≡ [])
  pub areas : (part : HashPart) → p.shared.hash ≡ Some part → (length f.areas.items ≡ suc (length p.hands)) × AreAll part.area f.areas.items
