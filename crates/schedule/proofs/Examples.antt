-- The worked examples of what a text is read as. Assumes nothing.
use mathlib.Core.Path.{refl}
use Rattle.basics.specs.Pick.{when}
use Rattle.grammar.specs.Line.{stop_of, after_of, line_of, kind_of}
use Rattle.grammar.specs.Words.{words, digits, value, unpadded, number_of, numbers_of, all_numbers}
use Rattle.schedule.specs.Text.{end_from, end_of, block_of, block_at}
use Rattle.schedule.specs.Read.{line_number, read_of}
use Rattle.schedule.specs.Examples.{Examples}

pub examples : Examples
unfolding when stop_of after_of line_of kind_of words digits value unpadded number_of numbers_of all_numbers end_from end_of block_of block_at line_number read_of
examples =
    record {
      request = refl;
      nested = refl;
      nothing_repeated = refl;
      no_ids = refl;
      no_text = refl;
      no_newline = refl;
      no_make = refl;
      second_make = refl;
      two_spaces = refl;
      space_at_end = refl;
      leading_zero = refl;
      largest = refl;
      too_large = refl;
      no_times = refl;
      too_often = refl;
      left_open = refl;
      fault_inside = refl;
      end_too_many = refl;
      not_opened = refl;
      not_closed = refl;
      too_deep = refl;
      too_deep_open = refl;
    }
