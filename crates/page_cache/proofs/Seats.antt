-- What a seat has seen of a name of its own.
use Rattle.std.proofs.Common.{◌≡◌, inl, inr, ℕ, List, Some, None, sym, ◌∙◌, arith}
use Rattle.lock_book.specs.Shown.{mine_of, number_of, seen_of}
use Rattle.dshash_core.specs.Key.{hash_of}
use Rattle.dshash_core.specs.Cells.{partition_of}
use Rattle.chunk_table.specs.Tables.{sight_of}
use Rattle.dshash_parts.proofs.Owners.{allowed, lawful}
use Rattle.dshash_parts.proofs.Uses.{partition_low}
use Rattle.page_cache.specs.Causes.{Evicts}
use Rattle.page_cache.specs.Owned.{IsKept, own_page, under}
use Rattle.page_cache.specs.Pages.{may, owner_of, stepped}
use Rattle.page_cache.specs.Seats.{IsCache, IsSeat}
use Rattle.page_cache.specs.Tickets.{CacheHistories}
use Rattle.page_cache.specs.declared.cache.Cache.{Cache}
use Rattle.page_cache.specs.declared.cache.Seat.{Seat}
use Rattle.page_cache.specs.declared.page.Page.{Page}
use Rattle.page_cache.proofs.Kept.{kept}
use Rattle.page_cache.proofs.Paid.{paid_counts}

pub seat_kept : (c : Cache) (s : Seat) → IsCache c → IsSeat c s → (name : List ℕ) → owner_of name ≡ number_of s.pass → IsKept (seen_of s.pass) (mine_of s.pass) name (under (seen_of s.pass) name)
seat_kept c s cache seat name owner =
    let home : ℕ = partition_of (hash_of name) in
    let taken = seat.own.stands.lawful home _ (cache.table.parts home (partition_low name)) in
    kept (number_of s.pass) name owner (seen_of s.pass) (mine_of s.pass) (lawful stepped may home _ taken) (allowed stepped may home _ taken) (seat.own.stands.own home)

-- a page that stands there is the last that was put
pub stands_kept : (seen mine : CacheHistories) (name : List ℕ) (page : Page) → IsKept seen mine name (under seen name) → under seen name ≡ Some page → own_page mine name ≡ Some page
stands_kept seen mine name page (inl x) stands = sym x ∙ stands
stands_kept seen mine name page (inr x) stands = let no : Some page ≡ None = sym stands ∙ x.0 in absurd (cc)

-- a caller that had no ticket has taken out as many entries since as it made, or more
pub evicts : (c : Cache) (s t : Seat) → IsSeat c s → IsSeat c t → s.tickets ≡ 0 → Evicts (mine_of s.pass) (mine_of t.pass)
evicts c s t x y none =
    let was = paid_counts c.area (number_of s.pass) c.share (sight_of s.pass s.apass) s.tickets x.settled.paid in
    let now = paid_counts c.area (number_of t.pass) c.share (sight_of t.pass t.apass) t.tickets y.settled.paid in
    omega (arith, was, now, none)
