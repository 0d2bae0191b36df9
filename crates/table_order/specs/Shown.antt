-- Which rows of a table are shown.
use Rattle.std.specs.Prelude.{◌≡◌, ◌∷◌, ◌++◌, ℕ, List, Option, None, Some, take}
use Rattle.par_model.specs.Table.{table_text}
use Rattle.table_order.specs.Order.{AreInOrder}
use Rattle.table_order.specs.declared.order.Order.{Order}
use Rattle.table_order.specs.declared.order.Shown.{Shown}

-- the rows in this order, or as they are
abbrev pub AreOrdered : Option Order → List (List (List ℕ)) → List (List (List ℕ)) → Type 0
AreOrdered None rows ordered = ordered ≡ rows
AreOrdered (Some order) rows ordered = AreInOrder order rows ordered

-- this many of the first, or all of them
abbrev pub first_of : {A : Type 0} → Option ℕ → List A → List A
first_of None xs = xs
first_of (Some limit) xs = take limit xs

-- a text is that of a table's header and of those of its rows that are shown
pub record IsShownText (shown : Shown) (header : List (List ℕ)) (rows : List (List (List ℕ))) (text : List ℕ) : Type 0 where
  pub ordered : List (List (List ℕ))
  pub are : AreOrdered shown.order rows ordered
  pub is : text ≡ table_text (header ∷ first_of shown.limit ordered)

-- the lines of those rows that are shown come after a text
pub record PutsShown (shown : Shown) (rows : List (List (List ℕ))) (old new : List ℕ) : Type 0 where
  pub ordered : List (List (List ℕ))
  pub are : AreOrdered shown.order rows ordered
  pub is : new ≡ old ++ table_text (first_of shown.limit ordered)
