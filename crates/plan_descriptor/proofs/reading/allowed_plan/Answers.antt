use Rattle.std.proofs.Common.{◌≡◌, ◌∙◌, ap, arith, inl, inr, length, nat_eq, refl}
use Rattle.std.specs.Prelude.{slice_index}
use Rattle.plan_descriptor.proofs.Allowed.{allowed}
use Rattle.plan_descriptor.proofs.Filters.{long}
use Rattle.plan_descriptor.proofs.ReadPlans.{padded_plan, read_old, read_words, read_writable}
use Rattle.plan_descriptor.specs.Descriptor.{plain_filters, size_of}
use Rattle.plan_descriptor.proofs.reading.allowed_plan.Goals as goal

pub groups-requires-clause-columns : goal.groups-requires-clause-columns
groups-requires-clause-columns c = (allowed c.args.words.now (long c.args.words.now c.requires.size) c.requires.allowed).group_columns

pub items-requires-clause-kinds : goal.items-requires-clause-kinds
items-requires-clause-kinds c = (allowed c.args.words.now (long c.args.words.now c.requires.size) c.requires.allowed).kinds

pub items-requires-clause-columns : goal.items-requires-clause-columns
items-requires-clause-columns c = (allowed c.args.words.now (long c.args.words.now c.requires.size) c.requires.allowed).columns

pub invariant_of-result : goal.invariant_of-result
invariant_of-result c = padded_plan c.args.words.now c.groups.result c.items.result (nat_eq (slice_index c.args.words.now 3) 1) c.filters_of-filters.result.0 c.filters_of-filters.result.1 c.filter.result (allowed c.args.words.now (long c.args.words.now c.requires.size) c.requires.allowed)
    c.groups.ensures.size c.groups.ensures.columns c.items.ensures.size c.items.ensures.kinds c.items.ensures.columns c.items.ensures.narrow c.items.ensures.places c.filter.ensures.fits c.filters_of-filters.ensures.filters c.filters_of-filters.ensures.few c.filters_of-filters.ensures.places

pub returns-clause-descriptor : goal.returns-clause-descriptor
returns-clause-descriptor c =
    let words = c.args.words.now in
    let hash = nat_eq (slice_index words 3) 1 in
    let is = allowed words (long words c.requires.size) c.requires.allowed in
    let whole = read_words words c.groups.result c.items.result hash c.filters_of-filters.result.0 c.filters_of-filters.result.1 c.filter.result is c.groups.ensures.size c.groups.ensures.columns c.items.ensures.size c.items.ensures.kinds c.items.ensures.columns c.items.ensures.narrow c.items.ensures.places c.filter.ensures.fits c.filters_of-filters.ensures.filters c.filters_of-filters.ensures.few c.filters_of-filters.ensures.places in
    let old = read_old words c.groups.result c.items.result hash c.filters_of-filters.result.0 c.filters_of-filters.result.1 c.filter.result is c.groups.ensures.size c.groups.ensures.columns c.items.ensures.size c.items.ensures.kinds c.items.ensures.columns c.items.ensures.narrow c.items.ensures.places c.filter.ensures.fits c.filters_of-filters.ensures.filters c.filters_of-filters.ensures.few c.filters_of-filters.ensures.places in
    elim is.version [
      | inl one ↦
          let size : length words ≡ 28 = c.requires.size ∙ ap size_of one in
          inr (whole refl 1 one (λ k h within. absurd (omega arith)) size (omega arith), c.filters_of-filters.ensures.filters ∙ ap plain_filters (c.filter.ensures.old size), old one)
      | inr two ↦
          let size : length words ≡ 32 = c.requires.size ∙ ap size_of two in
          inl (whole refl 2 two (λ k h within. c.filter.ensures.words size k h) size (omega arith))
    ]

pub returns-clause-plan : goal.returns-clause-plan
returns-clause-plan c =
    let words = c.args.words.now in
    read_writable words c.groups.result c.items.result (nat_eq (slice_index words 3) 1) c.filters_of-filters.result.0 c.filters_of-filters.result.1 c.filter.result (allowed words (long words c.requires.size) c.requires.allowed)
    c.groups.ensures.size c.groups.ensures.columns c.items.ensures.size c.items.ensures.kinds c.items.ensures.columns c.items.ensures.narrow c.items.ensures.places c.filter.ensures.fits c.filters_of-filters.ensures.filters c.filters_of-filters.ensures.few c.filters_of-filters.ensures.places
