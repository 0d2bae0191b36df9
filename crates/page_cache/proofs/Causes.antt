-- Why a page was not put.
use Rattle.std.proofs.Common.{◌≡◌, ℕ, List, true, is_some, inl}
use Rattle.page_cache.specs.Causes.{BringsItem, IsCause, IsNoRoom}
use Rattle.page_cache.specs.declared.cache.Cache.{Cache}
use Rattle.page_cache.specs.declared.cache.Seat.{Seat}
use Rattle.page_cache.specs.declared.calls.NotPut.{NotPut}
use Rattle.page_cache.specs.declared.calls.NotPut.TheVariants.{NoSpace, NoneToEvict, Memory}
use Rattle.page_cache.specs.declared.page.Page.{Page}

-- there was no room for the page's chunk
pub room_cause : (c : Cache) (before after : Seat) (name : List ℕ) (page : Page) (why : NotPut) → IsNoRoom c.area before.apass after.apass why → IsCause c before after name page why
room_cause c before after name page (NoSpace pages largest) none = inl none
room_cause c before after name page NoneToEvict none = absurd none
room_cause c before after name page Memory none = absurd none

pub brings : (before : Seat) (why : NotPut) → is_some before.spare ≡ true → BringsItem before why
brings before (NoSpace pages largest) item = item
brings before NoneToEvict item = tt
brings before Memory item = tt
