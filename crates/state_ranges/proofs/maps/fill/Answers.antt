use Rattle.std.proofs.Common.{refl}
use Rattle.state_ranges.proofs.maps.fill.Goals as goal

pub returns : goal.returns
returns c =
    let low = c.as_slice.ensures.value in
    let high = c.as_slice-2.ensures.value in
    record {
      columns_are = refl;
      ends_are = refl;
      kept = record { columns = c.args.range.now.columns; range = record { low = c.as_slice.result; high = c.as_slice-2.result } };
      kept_columns = refl;
      kept_ends = (λ i. record { low = low i; high = high i });
      filled = c.keep_blocks-range.ensures;
    }
