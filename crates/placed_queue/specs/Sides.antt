-- What an end of a queue knows.
use Rattle.std.specs.Prelude.{Bool, List, refl}
use Rattle.std.specs.Coded.{Coded, code_by, coded×, coded_list, coded_bool}
use Rattle.logbook.specs.Pages.{Book, book_coded}
use Rattle.placed_queue.specs.declared.item.Item.{Item}
use Rattle.placed_queue.specs.contracts.item.Item.{the_row}

-- which queue it is of, a beginning of the queue's history, and whether it has left, or learned that the sender has
pub record Side : Type 0 where
  pub queue : Book
  pub history : List Item
  pub over : Bool

abbrev pub side : Book → List Item → Bool → Side
side q h o = record { queue = q; history = h; over = o }

abbrev pub side_code : Coded Side
side_code = code_by (Book × (List Item × Bool)) (coded× book_coded (coded× (coded_list the_row.coded) coded_bool)) (λ s. (s.queue, (s.history, s.over))) (λ p. record { queue = p.0; history = p.1.0; over = p.1.1 }) (λ _. refl)
