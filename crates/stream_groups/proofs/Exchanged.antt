-- What was found of bytes in which the comma and the separator were exchanged, said of the bytes of the input.
use Rattle.std.proofs.Common.{inl, inr, ◌≡◌, ◌+◌, ◌++◌, ◌∷◌, ◌∙◌, ℕ, List, Option, None, Some, IfSome, arith, length, map, refl, ap, sym, subst}
use Rattle.std.specs.Prelude.{option_map}
use Rattle.std.proofs.lemmas.List.{length-map, map-append}
use Rattle.csv.specs.Reading.{strip_bom}
use Rattle.csv_rows.specs.Readings.{IsSeparator, exchanged, records_as, records_in}
use Rattle.csv_rows.specs.Records.{record_at}
use Rattle.csv_rows.proofs.Cleaned.{bytes-kept}
use Rattle.csv_rows.proofs.Exchanges.{reads-exchanged, twice-all}
use Rattle.par_model.specs.Named.{bound_plan}
use Rattle.par_model.specs.Outcome.{NoColumn, Outcome, Refused}
use Rattle.par_model.specs.declared.refusal.Refusal.{Refusal}
use Rattle.plan_spec.specs.Query.{Query}
use Rattle.row_blocks.specs.Blocks.{Table}
use Rattle.row_windows.specs.Seams.{IsLong}
use Rattle.text_lines.specs.Feeds.{count_feeds}
use Rattle.stream_groups.specs.Before.{ComesToTable, IsReadBefore, ReadBefore}
use Rattle.stream_groups.specs.Begins.{PlacesLong, PlacesRow}
use Rattle.stream_groups.specs.Outcome.{HasLong, outcome, outcome_over}
use Rattle.stream_groups.specs.Reading.{AreGroupsOver}
use Rattle.stream_groups.specs.Stops.{Tells}
use Rattle.stream_groups.specs.Twice.{twice_of}
use Rattle.stream_groups.specs.Ways.{of_bytes, of_text}
use Rattle.stream_groups.specs.declared.reading.ReadGroups.{ReadGroups}
use Rattle.stream_groups.specs.declared.stop.Stop.{Stop}
use Rattle.stream_groups.specs.declared.stop.Stop.TheVariants as stop

module _ (query : Query) (is : IsSeparator query.reading.separator) where
  -- the two, exchanged
  abbrev swap : ℕ → ℕ
  swap = exchanged query.reading.separator

  same_records : (bytes : List ℕ) → records_as query.reading (map swap bytes) ≡ records_in query.reading bytes
  same_records bytes = reads-exchanged query.reading bytes is

  same_outcome : (bytes : List ℕ) → outcome_over (of_text query.reading) query.plan (map swap bytes) ≡ outcome_over (of_bytes query.reading) query.plan bytes
  same_outcome bytes = ap (outcome query.plan) (same_records bytes)

  back : (text : List ℕ) → map swap (map swap text) ≡ text
  back text = twice-all query.reading.separator text

  -- ---- a record that is too long

  has_long : (bytes : List ℕ) (row : ℕ) → HasLong (of_text query.reading) query.plan (map swap bytes) row → HasLong (of_bytes query.reading) query.plan bytes row
  has_long bytes row h =
      let parted : map swap (h.begun ++ h.back) ≡ map swap h.begun ++ map swap h.back = map-append swap h.begun h.back in
      let rest : records_as query.reading (h.begun ++ h.back) ≡ records_in query.reading (map swap h.begun ++ map swap h.back) =
      sym (ap (records_as query.reading) (back (h.begun ++ h.back))) ∙ (same_records (map swap (h.begun ++ h.back)) ∙ ap (records_in query.reading) parted) in
      record {
        front = map swap h.front;
        begun = map swap h.begun;
        back = map swap h.back;
        are = sym (back bytes) ∙ (ap (map swap) h.are ∙ (map-append swap h.front (h.begun ++ h.back) ∙ ap (λ (l : List ℕ). map swap h.front ++ l) parted));
        before = h.before;
        number = h.number;
        parts = sym (same_records bytes) ∙ (h.parts ∙ ap (λ (l : Table). h.before ++ l) rest);
        long = subst IsLong (sym (back h.begun)) h.long;
        whole = h.whole;
      }

  places_long : (bytes : List ℕ) (row at : ℕ) (said : List ℕ) → PlacesLong (of_text query.reading) query.plan (map swap bytes) row at said → PlacesLong (of_bytes query.reading) query.plan bytes row at said
  unfolding has_long
  places_long bytes row at said p = record {
    has = has_long bytes row p.has;
    ends = p.ends;
    begun = p.begun;
    are = ap strip_bom (back p.has.begun) ∙ p.are;
    are_ends = p.are_ends;
    other = p.other;
    line = p.line ∙ ap (λ (t : List ℕ). count_feeds t + count_feeds p.ends + 1) (sym (back p.has.front));
    says = p.says;
  }

  -- ---- what was read before a read failed

  same_back : (text : List ℕ) → records_as query.reading text ≡ records_in query.reading (map swap text)
  same_back text = sym (ap (records_as query.reading) (back text)) ∙ same_records (map swap text)

  table_of_bytes : (front : List ℕ) → ComesToTable (of_text query.reading) query front → ComesToTable (of_bytes query.reading) query (map swap front)
  table_of_bytes front t = record {
    has_table = ap (outcome query.plan) (sym (same_back front)) ∙ t.has_table;
    once = subst (λ (l : Table). twice_of (bound_plan (record_at l 0) query.plan) (record_at l 0) ≡ None) (same_back front) t.once;
  }

  read_before : (bytes left seen : List ℕ) (most : ℕ) → length seen ≡ length left → IsReadBefore (of_text query.reading) query (map swap bytes) seen most → IsReadBefore (of_bytes query.reading) query bytes left most
  read_before bytes left seen most size r =
      let rest = r.back in
      record {
        front = map swap r.front;
        back = map swap rest;
        are = sym (back bytes) ∙ (ap (map swap) r.are ∙ map-append swap r.front rest);
        few = omega (arith, length-map rest swap, r.few, size);
        parts = sym (same_records bytes) ∙ (r.parts ∙ (ap (λ (l : Table). l ++ records_as query.reading rest) (same_back r.front) ∙ ap (λ (l : Table). records_in query.reading (map swap r.front) ++ l) (same_back rest)));
        whole = elim r.whole [ inl none ↦ inl (sym (same_back r.front) ∙ none) | inr table ↦ inr (table_of_bytes r.front table) ];
      }

  -- whatever was exchanged in what is left
  pub before_of_bytes : (old new : Option (List ℕ)) (separator most : ℕ) → ReadBefore (of_text query.reading) query (option_map (map swap) old) (option_map (map (exchanged separator)) new) most → ReadBefore (of_bytes query.reading) query old new most
  before_of_bytes None new separator most r = tt
  before_of_bytes (Some bytes) None separator most r = absurd r
  before_of_bytes (Some bytes) (Some left) separator most r = read_before bytes left (map (exchanged separator) left) most (length-map left (exchanged separator)) r

  -- ---- of a source that tells what it had left

  outcome_told : (o : Outcome) (left : Option (List ℕ)) → IfSome (option_map (map swap) left) (λ bytes. outcome_over (of_text query.reading) query.plan bytes ≡ o)
      → IfSome left (λ bytes. outcome_over (of_bytes query.reading) query.plan bytes ≡ o)
  outcome_told o None t = tt
  outcome_told o (Some bytes) t = sym (same_outcome bytes) ∙ t

  lacks_told : (name : List ℕ) (header : List (List ℕ)) (left : Option (List ℕ))
      → IfSome (option_map (map swap) left) (λ bytes. (outcome_over (of_text query.reading) query.plan bytes ≡ NoColumn name) × (record_at (records_as query.reading bytes) 0 ≡ header))
      → IfSome left (λ bytes. (outcome_over (of_bytes query.reading) query.plan bytes ≡ NoColumn name) × (record_at (records_in query.reading bytes) 0 ≡ header))
  lacks_told name header None t = tt
  lacks_told name header (Some bytes) t = (sym (same_outcome bytes) ∙ t.0, ap (λ (l : Table). record_at l 0) (sym (same_records bytes)) ∙ t.1)

  header_told : (header : List (List ℕ)) (left : Option (List ℕ)) → IfSome (option_map (map swap) left) (λ bytes. record_at (records_as query.reading bytes) 0 ≡ header)
      → IfSome left (λ bytes. record_at (records_in query.reading bytes) 0 ≡ header)
  header_told header None t = tt
  header_told header (Some bytes) t = ap (λ (l : Table). record_at l 0) (sym (same_records bytes)) ∙ t

  long_told : (row line : ℕ) (quote : List ℕ) (left : Option (List ℕ)) → IfSome (option_map (map swap) left) (λ bytes. PlacesLong (of_text query.reading) query.plan bytes row line quote)
      → IfSome left (λ bytes. PlacesLong (of_bytes query.reading) query.plan bytes row line quote)
  long_told row line quote None t = tt
  long_told row line quote (Some bytes) t = places_long bytes row line quote t

  place_told : (row line : ℕ) (quote : List ℕ) (left : Option (List ℕ)) → IfSome (option_map (map swap) left) (λ bytes. PlacesRow bytes row line quote)
      → IfSome left (λ bytes. PlacesRow (map swap bytes) row line quote)
  place_told row line quote None t = tt
  place_told row line quote (Some bytes) t = t

  first_told : (row : ℕ) (why : Refusal) (left : Option (List ℕ))
      → IfSome (option_map (map swap) left) (λ bytes. (others : List (ℕ × Refusal)) × (outcome_over (of_text query.reading) query.plan bytes ≡ Refused ((row, why) ∷ others)))
      → IfSome left (λ bytes. (others : List (ℕ × Refusal)) × (outcome_over (of_bytes query.reading) query.plan bytes ≡ Refused ((row, why) ∷ others)))
  first_told row why None t = tt
  first_told row why (Some bytes) t = (t.0, sym (same_outcome bytes) ∙ t.1)

  are_told : (row : ℕ) (header fields : List (List ℕ)) (left : Option (List ℕ))
      → IfSome (option_map (map swap) left) (λ bytes. (record_at (records_as query.reading bytes) 0 ≡ header) × (record_at (records_as query.reading bytes) row ≡ fields))
      → IfSome left (λ bytes. (record_at (records_in query.reading bytes) 0 ≡ header) × (record_at (records_in query.reading bytes) row ≡ fields))
  are_told row header fields None t = tt
  are_told row header fields (Some bytes) t =
      (ap (λ (l : Table). record_at l 0) (sym (same_records bytes)) ∙ t.0, ap (λ (l : Table). record_at l row) (sym (same_records bytes)) ∙ t.1)

  -- what a reason says of the one it says of the other
  pub tells_of_bytes : (left : Option (List ℕ)) (why : Stop) → Tells (of_text query.reading) query (option_map (map swap) left) why → Tells (of_bytes query.reading) query left why
  tells_of_bytes left stop.Usage t = t
  tells_of_bytes left stop.ReadFault t = tt
  tells_of_bytes left stop.NoHeader t = outcome_told _ left t
  tells_of_bytes left (stop.NoColumn said) t = record { name = t.name; header = t.header; says = t.says; lacks = lacks_told t.name t.header left t.lacks }
  tells_of_bytes left (stop.TwiceColumn said) t = record { header = t.header; says = t.says; whole = t.whole; is = header_told t.header left t.is }
  tells_of_bytes left (stop.LongRecord row line said) t = record { quote = t.quote; says = t.says; places = long_told row line t.quote left t.places }
  tells_of_bytes left (stop.Refused r) t = record {
    header = t.header;
    one = t.one;
    fields = t.fields;
    quote = t.quote;
    says = t.says;
    places = place_told r.row r.line t.quote left t.places;
    first = first_told r.row r.why left t.first;
    are = are_told r.row t.header t.fields left t.are;
  }
  tells_of_bytes left stop.WriteFault t = outcome_told _ left t
  tells_of_bytes left stop.Memory t = tt

  all_told : (records : Table) (left : Option (List ℕ)) → IfSome (option_map (map swap) left) (λ bytes. records_as query.reading bytes ≡ records) → IfSome left (λ bytes. records_in query.reading bytes ≡ records)
  all_told records None t = tt
  all_told records (Some bytes) t = sym (same_records bytes) ∙ t

  -- and groups of the one are those of the other
  pub groups_of_bytes : (left : Option (List ℕ)) (r : ReadGroups) → AreGroupsOver (of_text query.reading) query (option_map (map swap) left) r → AreGroupsOver (of_bytes query.reading) query left r
  groups_of_bytes left r g = record {
    header = g.header;
    rows = g.rows;
    one = g.one;
    count = g.count;
    bound = g.bound;
    groups = g.groups;
    few = g.few;
    all = all_told (g.header ∷ g.rows) left g.all;
  }

  -- ---- a source of which nothing was exchanged, since fields are parted by commas

  kept : (left : Option (List ℕ)) → query.reading.separator ≡ 44 → left ≡ option_map (map swap) left
  kept None comma = refl
  kept (Some bytes) comma = ap Some (bytes-kept query.reading.separator bytes comma)

  pub tells_as_is : (left : Option (List ℕ)) (why : Stop) → query.reading.separator ≡ 44 → Tells (of_text query.reading) query left why → Tells (of_bytes query.reading) query left why
  tells_as_is left why comma t = tells_of_bytes left why (subst (λ (o : Option (List ℕ)). Tells (of_text query.reading) query o why) (kept left comma) t)

  pub groups_as_are : (left : Option (List ℕ)) (r : ReadGroups) → query.reading.separator ≡ 44 → AreGroupsOver (of_text query.reading) query left r → AreGroupsOver (of_bytes query.reading) query left r
  groups_as_are left r comma g = groups_of_bytes left r (subst (λ (o : Option (List ℕ)). AreGroupsOver (of_text query.reading) query o r) (kept left comma) g)
