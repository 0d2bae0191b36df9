-- What three parties of an exchange of parts need before they begin.
use Rattle.std.specs.Prelude.{◌≡◌, IsSome}
use Rattle.atomic_table.specs.Seated.{TableId}
use Rattle.word_map.specs.WordMap.{at as word_at}
use Rattle.region_words.specs.Parts.{Owned}
use Rattle.lock_book.specs.declared.kept.Kept.{Ghosts}
use Rattle.lock_book.specs.declared.shelf.Pass.{Pass}
use Rattle.lock_book.specs.Shown.{number_of}
use Rattle.par_exchange.specs.declared.history.ExchangeName.{ExchangeName}
use Rattle.par_exchange.specs.declared.history.ExchangeState.{ExchangeState}
use Rattle.par_exchange.specs.declared.history.ExchangeCall.{ExchangeCall}
use Rattle.par_exchange.specs.declared.history.ExchangeReply.{ExchangeReply}
use Rattle.par_exchange.specs.declared.history.PartyStage.TheVariants.{Free}
use Rattle.par_exchange.specs.declared.asks.Ask.{Ask}
use Rattle.par_exchange.specs.declared.asks.Answer.{Answer}
use Rattle.par_exchange.specs.declared.desk.Desk.{Desk}
use Rattle.par_exchange.specs.declared.exchange.Exchange.{Exchange}
use Rattle.par_exchange.specs.Shown.{Belongs, IsExchange, parties_of, stage_of}
use Rattle.uses_book.specs.declared.trade.Parts.{Parts}

-- the exchange is for three parties, and its parts are of this region
pub record IsOpen (region : TableId) (x : Exchange Parts Owned Owned) : Type 0 where
  pub made : (base : Owned) × IsExchange base x
  pub here : (base : Owned) → IsExchange base x → base.region ≡ region
  pub three : parties_of x ≡ 3

-- the pass is one of this exchange's and may bring a part, and this one is of the region and owns the word of its number
pub record IsReady {g : Ghosts (Desk Parts Owned Owned) (Unit {0}) (Ask Owned) (Answer Owned) (ExchangeName Owned) (ExchangeState Owned) (ExchangeCall Owned) (ExchangeReply Owned)} (region : TableId) (x : Exchange Parts Owned Owned) (pass : Pass (Desk Parts Owned Owned) (Unit {0}) (Ask Owned) (Answer Owned) (ExchangeName Owned) (ExchangeState Owned) (ExchangeCall Owned) (ExchangeReply Owned) g) (part : Owned) : Type 0 where
  pub own : Belongs x pass
  pub free : stage_of pass ≡ Free
  pub here : part.region ≡ region
  pub word : IsSome (word_at part.words (number_of pass))
