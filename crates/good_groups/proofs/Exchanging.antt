-- What was found of the rows that are not refused, in bytes in which the comma and the separator were exchanged, said of the
-- bytes of the input.
use Rattle.std.proofs.Common.{◌≡◌, ◌<◌, ◌++◌, ◌∷◌, ◌∙◌, inl, inr, [], ℕ, List, None, Option, Some, IfSome, ap, length, map, subst, sym}
use Rattle.std.specs.Prelude.{option_map}
use Rattle.std.proofs.lemmas.List.{map-append}
use Rattle.csv_rows.specs.Readings.{IsSeparator, exchanged, records_as, records_in}
use Rattle.csv_rows.proofs.Exchanges.{reads-exchanged, twice-all}
use Rattle.plan_spec.specs.Query.{Query}
use Rattle.row_blocks.specs.Blocks.{Table}
use Rattle.row_windows.specs.Seams.{IsLong}
use Rattle.stream_groups.specs.Reading.{AreGroupsOver}
use Rattle.stream_groups.specs.Ways.{of_bytes, of_text}
use Rattle.stream_groups.specs.declared.reading.ReadGroups.{ReadGroups}
use Rattle.stream_groups.specs.declared.stop.Stop.{Stop}
use Rattle.stream_groups.specs.declared.stop.Stop.TheVariants as stop
use Rattle.stream_groups.proofs.Exchanged.{tells_of_bytes}
use Rattle.good_groups.specs.Good.{HasLongAfter, HasNoTable, IsLeftOut, NamesIfNone, good_records, good_way, refused_records}
use Rattle.good_groups.specs.declared.reading.LeftOut.{LeftOut}

module _ (query : Query) (is : IsSeparator query.reading.separator) where
  -- the two, exchanged
  abbrev swap : ℕ → ℕ
  swap = exchanged query.reading.separator

  same_records : (bytes : List ℕ) → records_as query.reading (map swap bytes) ≡ records_in query.reading bytes
  same_records bytes = reads-exchanged query.reading bytes is

  all_told : (records : Table) (left : Option (List ℕ)) → IfSome (option_map (map swap) left) (λ bytes. good_records query (records_as query.reading bytes) ≡ records)
      → IfSome left (λ bytes. good_records query (records_in query.reading bytes) ≡ records)
  all_told records None t = tt
  all_told records (Some bytes) t = ap (good_records query) (sym (same_records bytes)) ∙ t

  pub good_groups_of_bytes : (left : Option (List ℕ)) (r : ReadGroups) → AreGroupsOver (good_way (of_text query.reading) query) query (option_map (map swap) left) r
      → AreGroupsOver (good_way (of_bytes query.reading) query) query left r
  good_groups_of_bytes left r g = record {
    header = g.header;
    rows = g.rows;
    one = g.one;
    count = g.count;
    bound = g.bound;
    groups = g.groups;
    few = g.few;
    all = all_told (g.header ∷ g.rows) left g.all;
  }

  none_told : (left : Option (List ℕ)) → IfSome (option_map (map swap) left) (λ bytes. refused_records query (records_as query.reading bytes) ≡ [])
      → IfSome left (λ bytes. refused_records query (records_in query.reading bytes) ≡ [])
  none_told None t = tt
  none_told (Some bytes) t = ap (refused_records query) (sym (same_records bytes)) ∙ t

  count_told : (count : ℕ) (left : Option (List ℕ)) → IfSome (option_map (map swap) left) (λ bytes. length (refused_records query (records_as query.reading bytes)) ≡ count)
      → IfSome left (λ bytes. length (refused_records query (records_in query.reading bytes)) ≡ count)
  count_told count None t = tt
  count_told count (Some bytes) t = ap (λ (l : Table). length (refused_records query l)) (sym (same_records bytes)) ∙ t

  pub left_out_of_bytes : (most : ℕ) (left : Option (List ℕ)) (out : Option LeftOut) → IsLeftOut (of_text query.reading) query most (option_map (map swap) left) out → IsLeftOut (of_bytes query.reading) query most left out
  left_out_of_bytes most left None out = record { none = λ e. none_told left (out.none e); some = tt }
  left_out_of_bytes most left (Some rows) out = record {
    none = λ e. cc e;
    some = (out.some.0, out.some.1, tells_of_bytes query is left (stop.Refused rows.first) out.some.2, count_told rows.count left out.some.3);
  }

  -- ---- why a row is named

  back : (text : List ℕ) → map swap (map swap text) ≡ text
  back text = twice-all query.reading.separator text

  has_long : (most : ℕ) (bytes : List ℕ) → HasLongAfter (of_text query.reading) query most (map swap bytes) → HasLongAfter (of_bytes query.reading) query most bytes
  has_long most bytes h =
      let parted : map swap (h.begun ++ h.back) ≡ map swap h.begun ++ map swap h.back = map-append swap h.begun h.back in
      let rest : records_as query.reading (h.begun ++ h.back) ≡ records_in query.reading (map swap h.begun ++ map swap h.back) =
      sym (ap (records_as query.reading) (back (h.begun ++ h.back))) ∙ (same_records (map swap (h.begun ++ h.back)) ∙ ap (records_in query.reading) parted) in
      record {
        front = map swap h.front;
        begun = map swap h.begun;
        back = map swap h.back;
        are = sym (back bytes) ∙ (ap (map swap) h.are ∙ (map-append swap h.front (h.begun ++ h.back) ∙ ap (λ (l : List ℕ). map swap h.front ++ l) parted));
        before = h.before;
        parts = sym (same_records bytes) ∙ (h.parts ∙ ap (λ (l : Table). h.before ++ l) rest);
        few = h.few;
        long = subst IsLong (sym (back h.begun)) h.long;
      }

  pub none_of_bytes : (most : ℕ) (left : Option (List ℕ)) (why : Stop) → NamesIfNone (of_text query.reading) query most (option_map (map swap) left) why → NamesIfNone (of_bytes query.reading) query most left why
  none_of_bytes most left why names = λ first is. go left (names first is)
    where
      go : (left : Option (List ℕ)) → IfSome (option_map (map swap) left) (HasNoTable (of_text query.reading) query most)
          → IfSome left (HasNoTable (of_bytes query.reading) query most)
      go None t = tt
      go (Some bytes) (inl many) = inl (subst (λ (l : Table). most < length (refused_records query l)) (same_records bytes) many)
      go (Some bytes) (inr long) = inr (has_long most bytes long)
