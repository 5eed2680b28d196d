use Rattle.std.proofs.Common.{◌≡◌, ◌≤◌, length, List}
use Rattle.reader.specs.Items.Items.{Item}
use Rattle.reader.specs.Items.Tabled.{Tabled}
use Rattle.reader.specs.Items.Variables.{range_words, RangesInside, first_ranges, Numbering}
use Rattle.reader.proofs.variables.number_variables.Given as goal

abbrev pub invariant-loop-k : goal.invariant-loop-k
invariant-loop-k l = record {
  within : l.at ≤ length l.s;
  few : l.met ≤ 64;
  kept : length l.variables ≡ length l.initial.variables;
  room : length l.ranges ≡ 64;
  inside : RangesInside l.s (first_ranges l.ranges l.met);
  numbering : (is : List Item) → Tabled l.s l.roles (length l.roles) is → Numbering l.s is l.variables l.at l.k (range_words l.s (first_ranges l.ranges l.met));
}
