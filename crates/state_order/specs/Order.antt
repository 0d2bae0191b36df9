-- Keys in the order of a table's lines, within a range.
use Rattle.std.specs.Prelude.{◌≡◌, ◌++◌, ◌⊎◌, ℕ, List, [], ◌∷◌, All, MatchOption, map}
use Rattle.std.specs.List.Sorted.{IsStrictlySortedBy}
use Rattle.std.specs.declared.cmp.Ordering.TheVariants.{Less}
use Rattle.par_model.specs.Table.{columns_cmp}
use Rattle.result_text.specs.KeyColumns.{columns_in}
use Rattle.state_head.specs.Words.{Keys, keys_of}
use Rattle.state_order.specs.declared.order.KeyOrder.{KeyOrder}
use Rattle.state_order.specs.declared.order.OrderFault.{OrderFault}
use Rattle.state_order.specs.declared.order.OrderFault.TheVariants as fault

-- the line of one key comes before that of another: by this many columns, the first one first, byte by byte
abbrev pub ComesBefore : ℕ → List ℕ → List ℕ → Type 0
ComesBefore columns a b = columns_cmp (columns_in columns a) (columns_in columns b) ≡ Less

-- each line comes before those after it
abbrev pub Rise : ℕ → List (List ℕ) → Type 0
Rise columns keys = IsStrictlySortedBy columns_cmp (map (columns_in columns) keys)

-- a key does not come before the low end of a range, if it has one
abbrev pub IsFrom : ℕ → List ℕ → List ℕ → Type 0
IsFrom columns low key = (low ≡ []) ⊎ (ComesBefore columns key low → ⊥)

-- a key comes before the high end of a range, if it has one
abbrev pub IsBelow : ℕ → List ℕ → List ℕ → Type 0
IsBelow columns high key = (high ≡ []) ⊎ ComesBefore columns key high

pub record IsIn (columns : ℕ) (range : Keys) (key : List ℕ) : Type 0 where
  pub from : IsFrom columns range.low key
  pub below : IsBelow columns range.high key

-- keys such as a file has
pub record AreInOrder (columns : ℕ) (range : Keys) (keys : List (List ℕ)) : Type 0 where
  pub rise : Rise columns keys
  pub each : All (IsIn columns range) keys

pub record IsLast (keys : List (List ℕ)) (last : List ℕ) : Type 0 where
  pub front : List (List ℕ)
  pub is : keys ≡ front ++ last ∷ []

-- these keys came so far
pub record HasKeys (columns : ℕ) (range : Keys) (keys : List (List ℕ)) (order : KeyOrder) : Type 0 where
  pub columns_are : order.columns ≡ columns
  pub range_is : keys_of order.range ≡ range
  pub last_is : MatchOption order.last (keys ≡ []) (λ last. IsLast keys last.now)
  pub are : AreInOrder columns range keys

-- the last key is not before this one
pub record DoesNotFollow (columns : ℕ) (keys : List (List ℕ)) (key : List ℕ) : Type 0 where
  pub last : List ℕ
  pub is_last : IsLast keys last
  pub not_before : ComesBefore columns last key → ⊥

-- why a key does not come next
abbrev pub IsNoNext : ℕ → Keys → List (List ℕ) → List ℕ → OrderFault → Type 0
IsNoNext columns range keys key fault.Order = DoesNotFollow columns keys key
IsNoNext columns range keys key fault.Range = IsIn columns range key → ⊥
