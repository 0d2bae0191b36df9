-- What a sieve tells of the reading that began, and how it begins.
use Rattle.std.proofs.Common.{◌≡◌, ◌∷◌, ◌∙◌, [], ℕ, List, None, Option, Some, IfSome, length, subst, sym}
use Rattle.std.specs.Borrow.{GName}
use Rattle.csv_rows.specs.Readings.{records_as}
use Rattle.plan_spec.specs.Query.{Query}
use Rattle.stream_groups.specs.Reading.{AreGroupsOver, IsBound}
use Rattle.stream_groups.specs.Ways.{of_text}
use Rattle.stream_groups.specs.declared.reading.ReadGroups.{ReadGroups}
use Rattle.good_groups.specs.Begun.{IsBegunOver}
use Rattle.good_groups.specs.Counted.{AreRules}
use Rattle.good_groups.specs.Good.{good_records, good_way}
use Rattle.good_groups.specs.Opened.{Opened, Start, opened}
use Rattle.good_groups.specs.Sieve.{IsSieve}
use Rattle.good_groups.specs.Sifting.{IsSifting, sifting_left}
use Rattle.good_groups.specs.declared.sieve.Sifting.{Sifting}
use Rattle.good_groups.specs.declared.sifter.Rules.{Rules}

-- what is known once the header is, is known
pub of_sieve : (start : Option Start) (name : GName) (left : Option (List ℕ)) (r : Rules) (s : Sifting) (P : Query → ℕ → Option (List ℕ) → Type 0) → IsSieve start name left r s
    → ((o : Opened) (left : Option (List ℕ)) (r : Rules) → AreRules o r → IsSifting o left r s → P o.query o.most o.from) → IfSome start (λ st. P st.query st.most st.from)
of_sieve None name left r s P is known = absurd is
of_sieve (Some start) name left r s P is known = known (opened start is.1) left r is.2 is.3

-- it begins so
module _ (o : Opened) (r : Rules) (query : r.plan.now ≡ o.query) (most : r.most ≡ o.most) (width : r.width ≡ length o.header) (bound : IsBound o.query o.header r.bound.now) (one : records_as o.query.reading r.header.now ≡ o.header ∷ []) where
  pub are_rules : AreRules o r
  are_rules = record { query = query; most = most; width = width; bound = bound; one = one }

-- the groups of what it gives are those of the good rows
pub good_over : (o : Opened) (left : Option (List ℕ)) (r : Rules) (s : Sifting) (g : ReadGroups) → IsBegunOver o left r s → AreGroupsOver (of_text o.query.reading) o.query (sifting_left r left s) g
    → AreGroupsOver (good_way (of_text o.query.reading) o.query) o.query o.from g
good_over o left r s g begun are = record {
  header = are.header;
  rows = are.rows;
  one = are.one;
  count = are.count;
  bound = are.bound;
  groups = are.groups;
  few = are.few;
  all = all o.from begun.good;
}
  where
    all : (from : Option (List ℕ)) → IfSome from (λ bytes. (text : List ℕ) × (sifting_left r left s ≡ Some text) × (records_as o.query.reading text ≡ good_records o.query (records_as o.query.reading bytes)))
        → IfSome from (λ bytes. good_records o.query (records_as o.query.reading bytes) ≡ are.header ∷ are.rows)
    all None good = tt
    all (Some bytes) good = sym good.2 ∙ subst (λ (x : Option (List ℕ)). IfSome x (λ text. records_as o.query.reading text ≡ are.header ∷ are.rows)) good.1 are.all
