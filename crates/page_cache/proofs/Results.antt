-- What is told by a call that went well, and by a page that was read.
use Rattle.std.proofs.Common.{◌≡◌, Option, Some, None, Result, Ok, Err, OnOk, refl, sym, ap, ◌∙◌}
use Rattle.dshash_chunks.specs.declared.held.Held.{Held}
use Rattle.dshash_chunks.specs.declared.held.ChunkCalls.TheVariants.{With}
use Rattle.dshash_chunks.specs.declared.held.ChunkReplies.TheVariants.{Was, Did}
use Rattle.page_cache.specs.Pages.{shown, stepped}
use Rattle.page_cache.specs.Tickets.{CacheReply}
use Rattle.page_cache.specs.declared.page.Page.{Page}

-- a result that is no refusal
pub went_well : {A E Q : Type 0} (r : Result A E) → ((e : E) → r ≡ Err e → ⊥) → OnOk r Q → Q
went_well (Ok a) none h = h
went_well (Err e) none h = absurd (none e refl)

page_in : CacheReply → Option Page
page_in (Did page) = page
page_in (Was held) = None

-- the page that was read is in what is under the name
pub found_page : (from there : Option Held) (page : Option Page) → Did page ≡ (stepped from (With tt)).1 → there ≡ (stepped from (With tt)).0 → page ≡ shown there
unfolding page_in
found_page None there page replied stands = ap page_in replied ∙ sym (ap shown stands)
found_page (Some h) there page replied stands = ap page_in replied ∙ sym (ap shown stands)
