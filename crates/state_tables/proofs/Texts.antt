-- The texts of the ranges between some keys, one after another, are the text of all groups.
use Rattle.std.proofs.Common.{◌≡◌, ◌<◌, ◌≤◌, ◌&&◌, ◌||◌, ◌++◌, ◌∙◌, ℕ, Bool, true, false, List, [], ◌∷◌, All, Contains, None, Option, Some, ap, append-nil, append_assoc, arith, bytes_eq, cond, length, map, refl, subst, sym}
use Rattle.std.proofs.lemmas.List.{get_or-map, length-map, map-append}
use Rattle.std.proofs.lemmas.List.Elements.{All-append, All-contains, All-head, All-map, All-tail, Contains-append_left, Contains-append_right}
use Rattle.std.proofs.lemmas.List.Sorted.{All-permutation, Contains-permutation}
use Rattle.std.proofs.lemmas.Slice.Eq.{bytes_eq-Decides}
use Rattle.std.specs.FinMap as finite
use Rattle.std.specs.List.{AllByRecursion, AllZip, IsDistinct, concat}
use Rattle.std.specs.List.Sorted.{IsStrictlySortedBy}
use Rattle.std.specs.declared.cmp.Ordering.TheVariants.{Less}
use Rattle.par_model.specs.Key.{encoded}
use Rattle.par_model.specs.Named.{NamedPlan}
use Rattle.par_model.specs.Plan.{Plan}
use Rattle.par_model.specs.Table.{columns_cmp, table_header, table_text}
use Rattle.par_model.specs.declared.state.AggState.{AggState}
use Rattle.partial_agg.specs.Groups.{GroupsByKey}
use Rattle.partial_agg.specs.Listed.{group, listed}
use Rattle.partial_agg.specs.declared.groups.Group.{Group}
use Rattle.partial_agg.proofs.Entries.{All-found, Contains-found}
use Rattle.result_text.specs.KeyColumns.{columns_in}
use Rattle.result_text.specs.Printable.{IsKeyOf}
use Rattle.result_text.specs.Text.{Line, group_of_line, line_record, shown}
use Rattle.result_text.proofs.Answering.{Contains-map}
use Rattle.result_text.proofs.KeyColumns.{columns_in-encoded, same_encoding}
use Rattle.result_text.proofs.Ranges.{shown-all}
use Rattle.result_text.proofs.Tables.{table_text-append, table_text-cons}
use Rattle.state_head.specs.Words.{Keys}
use Rattle.state_order.specs.Ranges.{is_before, is_below, is_from, is_open, is_within}
use Rattle.state_range.specs.Ranges.{IsTextWithin, RiseFrom, header_before, ranges_from}
use Rattle.state_tables.specs.Texts.{RangesAreText}
use Rattle.state_tables.proofs.Order.{and_of, below_before, below_of, both, from_earlier, from_not, from_of, is_less, less_through, not_itself, rising_append}
use Rattle.state_tables.proofs.Same.{Differs, Distinct, distinct_listed, same_groups}

kept_one : (b : Bool) (o : Option AggState) (s : AggState) → cond b o None ≡ Some s → (b ≡ true) × (o ≡ Some s)
kept_one true o s e = (refl, e)
kept_one false o s e = cc

last_end : (b : Bool) → (b && true) ≡ true → b ≡ true
last_end true e = refl
last_end false e = cc

false_of : (b : Bool) → (b ≡ true → ⊥) → b ≡ false
false_of true none = absurd (none refl)
false_of false none = refl

abbrev first : Line → List (List ℕ)
first l = l.0

-- what is under a key is in the list of a map
listed_under : (m : GroupsByKey) (key : List ℕ) (s : AggState) → finite.get m key ≡ Some s → Contains (listed m) (record { key = key; state = s })
listed_under m key s is = Contains-map group (finite.entries m) (key, s) (Contains-found m key s is)

all_under : (m : GroupsByKey) → All (λ (g : Group). finite.get m g.key ≡ Some g.state) (listed m)
all_under m = All-map (λ (g : Group). finite.get m g.key ≡ Some g.state) group (finite.entries m) (All-found m)

-- ---- lines that rise are of different keys

differs : (l : Line) (ls : List Line) → length (encoded l.0) ≤ 248 → AllByRecursion (λ y. columns_cmp l.0 y ≡ Less) (map first ls) → Differs (encoded l.0) (map group_of_line ls)
differs l [] short above = tt
differs l (k ∷ ls) short above = (
  false_of (bytes_eq (encoded l.0) (encoded k.0)) (λ e. not_itself l.0 (subst (λ y. columns_cmp l.0 y ≡ Less) (sym (same_encoding l.0 k.0 short ((bytes_eq-Decides (encoded l.0) (encoded k.0)).0 e))) above.0)),
  differs l ls short above.1,
)

distinct_lines : (ls : List Line) → All (λ (l : Line). length (encoded l.0) ≤ 248) ls → IsStrictlySortedBy columns_cmp (map first ls) → Distinct (map group_of_line ls)
unfolding IsDistinct IsStrictlySortedBy
distinct_lines [] short rise = tt
distinct_lines (l ∷ ls) short rise =
    let P : Line → Type 0 = λ (k : Line). length (encoded k.0) ≤ 248 in
    (differs l ls (All-head P l ls short) rise.0, distinct_lines ls (All-tail P l ls short) rise.1)

module _ (names : NamedPlan) (plan : Plan) (m : GroupsByKey) (keys : All (λ (g : Group). IsKeyOf (length plan.groups) g.key) (listed m)) where
  abbrev n : ℕ
  n = length plan.groups

  -- a line is that of a group of the map, and its key has this
  record IsLineOf (P : List ℕ → Type 0) (l : Line) : Type 0 where
    pub is : finite.get m (encoded l.0) ≡ Some l.1
    pub short : length (encoded l.0) ≤ 248
    pub read : columns_in n (encoded l.0) ≡ l.0
    pub has : P (encoded l.0)

  read_line : (l : Line) → finite.get m (encoded l.0) ≡ Some l.1 → length (encoded l.0) ≤ 248 → columns_in n (encoded l.0) ≡ l.0
  read_line l is short =
      let key = All-contains (λ (g : Group). IsKeyOf n g.key) (listed m) (record { key = encoded l.0; state = l.1 }) keys (listed_under m (encoded l.0) l.1 is) in
      let same : l.0 ≡ key.columns = same_encoding l.0 key.columns short key.is in
      let many : length l.0 ≡ n = ap (λ (cs : List (List ℕ)). length cs) same ∙ key.many in
      subst (λ (k : ℕ). columns_in k (encoded l.0) ≡ l.0) many (columns_in-encoded l.0 short)

  -- lines of all groups of the map whose keys pass, in their order, after the header if there is no low end
  record AreLines (P : List ℕ → Type 0) (low text : List ℕ) : Type 0 where
    pub lines : List Line
    pub rising : IsStrictlySortedBy columns_cmp (map first lines)
    pub each : All (IsLineOf P) lines
    pub have : (key : List ℕ) (s : AggState) → finite.get m key ≡ Some s → P key → Contains (map group_of_line lines) (record { key = key; state = s })
    pub is : text ≡ header_before names low ++ table_text (map (line_record plan) lines)

  abbrev Within : Keys → List ℕ → Type 0
  Within range key = is_within n range key ≡ true

  abbrev From : List ℕ → List ℕ → Type 0
  From low key = is_from n low key ≡ true

  own : (range : Keys) (text : List ℕ) → IsTextWithin names plan range m text → AreLines (Within range) range.low text
  own range text t =
      let w = t.groups in
      let ls = t.is_text.are_lines in
      let all : All (λ (g : Group). finite.get w g.key ≡ Some g.state) (map group_of_line ls.lines) = All-permutation (λ (g : Group). finite.get w g.key ≡ Some g.state) (listed w) (map group_of_line ls.lines) ls.same (all_under w) in
      let short : All (λ (g : Group). length g.key ≤ 248) (map group_of_line ls.lines) = All-permutation (λ (g : Group). length g.key ≤ 248) (listed w) (map group_of_line ls.lines) ls.same ls.short in
      record {
        lines = ls.lines;
        rising = ls.rising;
        each = λ k d lt. one ls.lines all short k d lt;
        have = λ key s is inside. Contains-permutation (listed w) (map group_of_line ls.lines) (record { key = key; state = s }) ls.same
            (listed_under w key s (t.are_within.each key ∙ ap (λ (b : Bool). cond b (finite.get m key) None) inside ∙ is));
        is = t.is_text.is ∙ ap (λ (x : List ℕ). header_before names range.low ++ x) ls.is;
      }
    where
      one : (lines : List Line) → All (λ (g : Group). finite.get t.groups g.key ≡ Some g.state) (map group_of_line lines) → All (λ (g : Group). length g.key ≤ 248) (map group_of_line lines) → All (IsLineOf (Within range)) lines
      one lines all short k d lt =
          let long : k < length (map group_of_line lines) = omega (arith, lt, length-map lines group_of_line) in
          let to = get_or-map group_of_line lines k d (group_of_line d) lt in
          let found = subst (λ (g : Group). finite.get t.groups g.key ≡ Some g.state) to (all k (group_of_line d) long) in
          let few = subst (λ (g : Group). length g.key ≤ 248) to (short k (group_of_line d) long) in
          line found few
        where
          line : {l : Line} → finite.get t.groups (encoded l.0) ≡ Some l.1 → length (encoded l.0) ≤ 248 → IsLineOf (Within range) l
          line {l} found few =
              let two = kept_one (is_within n range (encoded l.0)) (finite.get m (encoded l.0)) l.1 (sym (t.are_within.each (encoded l.0)) ∙ found) in
              record { is = two.1; short = few; read = read_line l two.1 few; has = two.0 }

  -- the lines below a cut come before those from it on
  before_each : (cut : List ℕ) (l : Line) (ls : List Line) → is_before n (encoded l.0) cut ≡ true → columns_in n (encoded l.0) ≡ l.0 → is_open cut ≡ false → All (IsLineOf (From cut)) ls → AllByRecursion (λ y. columns_cmp l.0 y ≡ Less) (map first ls)
  before_each cut l [] below read closed all = tt
  before_each cut l (k ∷ ls) below read closed all =
      let here = All-head (IsLineOf (From cut)) k ls all in
      let less = less_through (columns_in n (encoded l.0)) (columns_in n (encoded k.0)) (columns_in n cut) (is_less (columns_cmp (columns_in n (encoded l.0)) (columns_in n cut)) below) (from_not n cut (encoded k.0) closed here.has) in (
        (λ i. columns_cmp (sym read i) (sym here.read i)) ∙ less,
        before_each cut l ls below read closed (All-tail (IsLineOf (From cut)) k ls all),
      )

  all_before : (low cut : List ℕ) (xs ys : List Line) → is_open cut ≡ false → All (IsLineOf (Within (record { low = low; high = cut }))) xs → All (IsLineOf (From cut)) ys → AllByRecursion (λ x. AllByRecursion (λ y. columns_cmp x y ≡ Less) (map first ys)) (map first xs)
  all_before low cut [] ys closed all others = tt
  all_before low cut (x ∷ xs) ys closed all others =
      let P : Line → Type 0 = IsLineOf (Within (record { low = low; high = cut })) in
      let here = All-head P x xs all in
      let two = both (is_from n low (encoded x.0)) (is_below n cut (encoded x.0)) here.has in
      (before_each cut x ys (below_before n cut (encoded x.0) closed two.1) here.read closed others, all_before low cut xs ys closed (All-tail P x xs all) others)

  passes : (P Q : List ℕ → Type 0) (lines : List Line) → ((key : List ℕ) → P key → Q key) → All (IsLineOf P) lines → All (IsLineOf Q) lines
  passes P Q lines f all = λ k d lt. let h = all k d lt in record { is = h.is; short = h.short; read = h.read; has = f _ h.has }

  no_header : (cut : List ℕ) → is_open cut ≡ false → header_before names cut ≡ []
  no_header [] e = cc
  no_header (byte ∷ cut) e = refl

  step : (low cut text rest : List ℕ) → is_open cut ≡ false → (is_open low || is_before n low cut) ≡ true → AreLines (Within (record { low = low; high = cut })) low text → AreLines (From cut) cut rest → AreLines (From low) low (text ++ rest)
  step low cut text rest closed rise a b =
      let range : Keys = record { low = low; high = cut } in
      record {
        lines = a.lines ++ b.lines;
        rising = subst (IsStrictlySortedBy columns_cmp) (sym (map-append first a.lines b.lines)) (rising_append (map first a.lines) (map first b.lines) a.rising b.rising (all_before low cut a.lines b.lines closed a.each b.each));
        each = All-append (IsLineOf (From low)) a.lines b.lines (passes (Within range) (From low) a.lines (λ key h. (both (is_from n low key) (is_below n cut key) h).0) a.each)
            (passes (From cut) (From low) b.lines (λ key h. from_earlier n low cut key closed rise h) b.each);
        have = λ key s is from. subst (λ (gs : List Group). Contains gs (record { key = key; state = s })) (sym (map-append group_of_line a.lines b.lines)) (either key s is from (is_before n key cut) refl);
        is = (λ i. a.is i ++ tail i) ∙ append_assoc (header_before names low) (table_text (map (line_record plan) a.lines)) (table_text (map (line_record plan) b.lines))
            ∙ ap (λ (x : List ℕ). header_before names low ++ x) (sym (table_text-append (map (line_record plan) a.lines) (map (line_record plan) b.lines)) ∙ ap table_text (sym (map-append (line_record plan) a.lines b.lines)));
      }
    where
      tail : rest ≡ table_text (map (line_record plan) b.lines)
      tail = b.is ∙ ap (λ (h : List ℕ). h ++ table_text (map (line_record plan) b.lines)) (no_header cut closed)

      either : (key : List ℕ) (s : AggState) → finite.get m key ≡ Some s → is_from n low key ≡ true → (x : Bool) → is_before n key cut ≡ x → Contains (map group_of_line a.lines ++ map group_of_line b.lines) (record { key = key; state = s })
      either key s is from true e = Contains-append_left (map group_of_line a.lines) (map group_of_line b.lines) (record { key = key; state = s }) (a.have key s is (and_of (is_from n low key) (is_below n cut key) from (below_of n cut key e)))
      either key s is from false e = Contains-append_right (map group_of_line a.lines) (map group_of_line b.lines) (record { key = key; state = s }) (b.have key s is (from_of n cut key e))

  -- all lines from a low end on
  from : (low : List ℕ) (cuts texts : List (List ℕ)) → RiseFrom n low cuts → AllZip (λ range text. IsTextWithin names plan range m text) (ranges_from low cuts) texts → AreLines (From low) low (concat texts)
  from low [] [] rise all = absurd all
  from low [] (text ∷ []) rise all =
      let o = own (record { low = low; high = [] }) text all.0 in
      record {
        lines = o.lines;
        rising = o.rising;
        each = passes (Within (record { low = low; high = [] })) (From low) o.lines (λ key h. last_end (is_from n low key) h) o.each;
        have = λ key s is h. o.have key s is (and_of (is_from n low key) true h refl);
        is = append-nil text ∙ o.is;
      }
  from low [] (text ∷ more ∷ texts) rise all = absurd all.1
  from low (cut ∷ cuts) [] rise all = absurd all
  from low (cut ∷ cuts) (text ∷ texts) rise all = step low cut text (concat texts) rise.0 rise.1 (own (record { low = low; high = cut }) text all.0) (from cut cuts texts rise.2 all.1)

pub ranges_are_text : RangesAreText
ranges_are_text names plan m cuts texts some keys rise all =
    let f = from names plan m keys [] cuts texts rise all in
    let ls = f.lines in
    record {
      table = table_header names ∷ map (line_record plan) (shown plan ls);
      each = record {
        lines = ls;
        rising = f.rising;
        same = same_groups (listed m) (map group_of_line ls) (distinct_listed m) (distinct_lines ls (λ k d lt. (f.each k d lt).short) f.rising)
            (λ g h. f.have g.key g.state (All-contains (λ (g : Group). finite.get m g.key ≡ Some g.state) (listed m) g (all_under m) h) refl)
            (λ g h. listed_under m g.key g.state (All-contains (λ (g : Group). finite.get m g.key ≡ Some g.state) (map group_of_line ls) g (All-map (λ (g : Group). finite.get m g.key ≡ Some g.state) group_of_line ls (λ k d lt. (f.each k d lt).is)) h));
        is = refl;
      };
      is = f.is ∙ sym (table_text-cons (table_header names) (map (line_record plan) ls)) ∙ ap (λ (xs : List Line). table_text (table_header names ∷ map (line_record plan) xs)) (sym (shown-all plan ls some));
    }
