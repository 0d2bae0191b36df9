-- What there was when a reading began.
use Rattle.std.specs.Prelude.{ℕ, List, Option}
use Rattle.std.specs.Borrow.{GName}
use Rattle.plan_spec.specs.Query.{Query}

-- the query, how many refused rows are left out at most, what the source had left, and which reference leads to it
pub record Start : Type 0 where
  pub query : Query
  pub most : ℕ
  pub from : Option (List ℕ)
  pub name : GName

-- the same without the reference, once the header is known
pub record Opened : Type 0 where
  pub query : Query
  pub most : ℕ
  pub from : Option (List ℕ)
  pub header : List (List ℕ)

abbrev pub opened : Start → List (List ℕ) → Opened
opened s header = record { query = s.query; most = s.most; from = s.from; header = header }
