-- A query of which a part does not read.
use Rattle.std.proofs.Common.{◌≡◌, ℕ, Bool, List, Option, Some, None, refl}
use Rattle.std.specs.Prelude.{option_and_then}
use Rattle.par_model.specs.Named.{NamedFilter, NamedItem}
use Rattle.csv_rows.specs.declared.cleaning.Reading.{Reading}
use Rattle.plan_spec.specs.Query.{query_by}

-- what has no value in any case
pub never : {A B : Type 0} (f : A → Option B) (o : Option A) → ((x : A) → f x ≡ None) → option_and_then f o ≡ None
never f None none = refl
never f (Some x) none = none x

pub no_filters : (groups : Option (List (List ℕ))) (items : Option (List NamedItem)) (hash : Option Bool) (workers pages : Option ℕ) (reading : Option Reading) → query_by groups items None hash workers pages reading ≡ None
no_filters None items hash workers pages reading = refl
no_filters (Some g) None hash workers pages reading = refl
no_filters (Some g) (Some i) hash workers pages reading = refl

module _ (groups : Option (List (List ℕ))) (items : Option (List NamedItem)) (filters : Option (List NamedFilter)) where
  pub no_hash : (workers pages : Option ℕ) (reading : Option Reading) → query_by groups items filters None workers pages reading ≡ None
  no_hash workers pages reading = by groups items filters
    where
      by : (g : Option (List (List ℕ))) (i : Option (List NamedItem)) (f : Option (List NamedFilter)) → query_by g i f None workers pages reading ≡ None
      by None i f = refl
      by (Some g) None f = refl
      by (Some g) (Some i) None = refl
      by (Some g) (Some i) (Some f) = refl

  pub no_workers : (hash : Bool) (pages : Option ℕ) (reading : Option Reading) → query_by groups items filters (Some hash) None pages reading ≡ None
  no_workers hash pages reading = by groups items filters
    where
      by : (g : Option (List (List ℕ))) (i : Option (List NamedItem)) (f : Option (List NamedFilter)) → query_by g i f (Some hash) None pages reading ≡ None
      by None i f = refl
      by (Some g) None f = refl
      by (Some g) (Some i) None = refl
      by (Some g) (Some i) (Some f) = refl

  pub no_pages : (hash : Bool) (workers : ℕ) (reading : Option Reading) → query_by groups items filters (Some hash) (Some workers) None reading ≡ None
  no_pages hash workers reading = by groups items filters
    where
      by : (g : Option (List (List ℕ))) (i : Option (List NamedItem)) (f : Option (List NamedFilter)) → query_by g i f (Some hash) (Some workers) None reading ≡ None
      by None i f = refl
      by (Some g) None f = refl
      by (Some g) (Some i) None = refl
      by (Some g) (Some i) (Some f) = refl

  pub no_reading : (hash : Bool) (workers pages : ℕ) → query_by groups items filters (Some hash) (Some workers) (Some pages) None ≡ None
  no_reading hash workers pages = by groups items filters
    where
      by : (g : Option (List (List ℕ))) (i : Option (List NamedItem)) (f : Option (List NamedFilter)) → query_by g i f (Some hash) (Some workers) (Some pages) None ≡ None
      by None i f = refl
      by (Some g) None f = refl
      by (Some g) (Some i) None = refl
      by (Some g) (Some i) (Some f) = refl
