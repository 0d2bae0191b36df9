-- Entries as bytes, one after another, and the run of some groups.
use Rattle.std.proofs.Common.{◌≡◌, ◌<◌, ◌≤◌, ◌+◌, ◌-◌, ◌∙◌, ◌∷◌, ◌++◌, [], ℕ, List, ap, arith, drop, get_or, length, map, refl, subst, sym, take}
use Rattle.std.proofs.Math.Seq.{drop-append_seam, take-append_seam}
use Rattle.std.proofs.lemmas.List.{get_or-map, length-append, length-map, map-append, take_all, take_more}
use Rattle.csv.specs.Records.{cut_from, prev}
use Rattle.csv.proofs.RecordFacts.{cut-length, field-bounds, field-cut, field-get}
use Rattle.csv_rows.specs.Store.{Covers}
use Rattle.csv_rows.proofs.Groups.{covers-more, covers-none, cut-push}
use Rattle.par_model.specs.Plan.{Plan}
use Rattle.partial_agg.specs.declared.groups.Group.{Group}
use Rattle.result_text.specs.GroupOrder.{group_of}
use Rattle.result_text.specs.declared.order.GroupRef.{GroupRef}
use Rattle.line_runs.specs.Entries.{Entry, entry_bytes, entry_in, entry_of, line_of, no_entry, whole_entry}

-- ---- where an entry lies

pub record EntryAt (bytes ends : List ℕ) (run : List Entry) (at : ℕ) : Type 0 where
  pub there : at < length ends
  pub up : prev 0 ends at ≤ get_or ends at 0
  pub within : get_or ends at 0 ≤ length bytes
  pub value : get_or run at no_entry ≡ entry_in (take (get_or ends at 0 - prev 0 ends at) (drop (prev 0 ends at) bytes))

pub length-entries : (bytes ends : List ℕ) → length (map entry_in (cut_from 0 ends bytes)) ≡ length ends
length-entries bytes ends = length-map (cut_from 0 ends bytes) entry_in ∙ cut-length 0 ends bytes

pub entry-there : (bytes ends : List ℕ) (run : List Entry) (at : ℕ) → map entry_in (cut_from 0 ends bytes) ≡ run → Covers ends (length bytes) → at < length run → EntryAt bytes ends run at
entry-there bytes ends run at is covers lt =
    let there : at < length ends = omega (arith, lt, ap (length {A = Entry}) is, length-entries bytes ends) in
    let here : at < length (cut_from 0 ends bytes) = omega (arith, there, cut-length 0 ends bytes) in
    let b = field-bounds 0 ends (length bytes) at covers.0 there in
    record {
      there = there;
      up = b.0;
      within = b.1;
      value = ap (λ (es : List Entry). get_or es at no_entry) (sym is) ∙ get_or-map entry_in (cut_from 0 ends bytes) at [] no_entry here ∙ ap entry_in (field-get (cut_from 0 ends bytes) at _ (field-cut 0 ends bytes at there));
    }

-- ---- none

pub none_covers : (bytes ends : List ℕ) → bytes ≡ [] → ends ≡ [] → Covers ends (length bytes)
none_covers bytes ends b e = subst (λ (es : List ℕ). Covers es (length bytes)) (sym e) (subst (λ (bs : List ℕ). Covers [] (length bs)) (sym b) covers-none)

pub none_there : (bytes ends : List ℕ) → ends ≡ [] → map entry_in (cut_from 0 ends bytes) ≡ []
unfolding cut_from
none_there bytes ends e = ap (λ (es : List ℕ). map entry_in (cut_from 0 es bytes)) e

-- ---- an entry after others

pub covers_ended : (bytes ends front entry : List ℕ) → Covers ends (length front) → bytes ≡ front ++ entry → Covers (ends ++ length bytes ∷ []) (length bytes)
covers_ended bytes ends front entry covers is = covers-more ends (length front) (length bytes) covers (omega (arith, ap (length {A = ℕ}) is, length-append front entry))

pub run_ended : (bytes ends front entry : List ℕ) → Covers ends (length front) → bytes ≡ front ++ entry → map entry_in (cut_from 0 (ends ++ length bytes ∷ []) bytes) ≡ map entry_in (cut_from 0 ends front) ++ entry_in entry ∷ []
run_ended bytes ends front entry covers is = (λ i. map entry_in (cut_from 0 (ends ++ length (is i) ∷ []) (is i))) ∙ ap (map entry_in) (cut-push ends front entry covers) ∙ map-append entry_in (cut_from 0 ends front) (entry ∷ [])

-- an entry is read as what it was made of
pub whole_back : (key line : List ℕ) → entry_in (whole_entry key line) ≡ (key, line)
whole_back key line = λ i. (take-append_seam key line i, drop-append_seam key line i)

-- ---- entries as bytes

module _ (plan : Plan) where
  abbrev pub bytes_of : Group → List ℕ
  bytes_of group = entry_bytes plan group.key group.state

  -- what was put in front of a line is its key
  entry_back : (group : Group) → entry_in (bytes_of group) ≡ entry_of plan group
  entry_back group =
      let line = line_of plan group.key group.state in
      λ i. (take-append_seam group.key line i, drop-append_seam group.key line i)

  entries_back : (groups : List Group) → map entry_in (map bytes_of groups) ≡ map (entry_of plan) groups
  entries_back [] = refl
  entries_back (g ∷ groups) = λ i. entry_back g i ∷ entries_back groups i

  -- the entries of all groups are the run
  pub run_is : (groups : List Group) (refs : List GroupRef) (bytes ends : List ℕ) (n : ℕ) → length refs ≤ n → cut_from 0 ends bytes ≡ map bytes_of (map (group_of groups) (take n refs))
      → map entry_in (cut_from 0 ends bytes) ≡ map (entry_of plan) (map (group_of groups) refs)
  run_is groups refs bytes ends n all is = ap (map entry_in) (is ∙ ap (λ (rs : List GroupRef). map bytes_of (map (group_of groups) rs)) (take_all n refs all)) ∙ entries_back (map (group_of groups) refs)

  -- one entry more
  pub record HaveMore (groups : List Group) (refs : List GroupRef) (n : ℕ) (bytes ends : List ℕ) : Type 0 where
    pub covers : Covers ends (length bytes)
    pub entries : cut_from 0 ends bytes ≡ map bytes_of (map (group_of groups) (take n refs))

  pub one_more : (groups : List Group) (refs : List GroupRef) (n size : ℕ) (d : GroupRef) (bytes ends news places : List ℕ) → n < length refs → HaveMore groups refs n bytes ends
      → news ≡ bytes ++ bytes_of (group_of groups (get_or refs n d)) → size ≡ length news → places ≡ ends ++ size ∷ [] → HaveMore groups refs (n + 1) news places
  one_more groups refs n size d bytes ends news places lt have grown size_is more =
      let own = bytes_of (group_of groups (get_or refs n d)) in
      let long : length news ≡ length (bytes ++ own) = ap (length {A = ℕ}) grown in
      let le : length bytes ≤ length news = omega (arith, long, length-append bytes own) in
      let ends_are : places ≡ ends ++ length news ∷ [] = more ∙ ap (λ (k : ℕ). ends ++ k ∷ []) size_is in
      let both : cut_from 0 places news ≡ cut_from 0 (ends ++ length (bytes ++ own) ∷ []) (bytes ++ own) = λ i. cut_from 0 ((ends_are ∙ ap (λ (k : ℕ). ends ++ k ∷ []) long) i) (grown i) in
      record {
        covers = subst (λ (es : List ℕ). Covers es (length news)) (sym ends_are) (covers-more ends (length bytes) (length news) have.covers le);
        entries = both ∙ cut-push ends bytes own have.covers ∙ ap (λ (l : List (List ℕ)). l ++ own ∷ []) have.entries
            ∙ sym (map-append bytes_of (map (group_of groups) (take n refs)) (group_of groups (get_or refs n d) ∷ []))
            ∙ ap (map bytes_of) (sym (map-append (group_of groups) (take n refs) (get_or refs n d ∷ [])) ∙ ap (map (group_of groups)) (sym (take_more refs n d lt)));
      }
