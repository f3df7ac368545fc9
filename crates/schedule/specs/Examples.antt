-- Texts and what they are read as. A call is named by the place of its line's first byte.
use Rattle.std.specs.Prelude.{◌≡◌, [], ◌∷◌}
use Rattle.tables.specs.Bytes.{bytes}
use Rattle.schedule.specs.Read.{bad_line, calls, read_of}

pub record Examples : Type 0 where
  -- the request's own
  pub request : read_of (bytes "make 1 1 1\nhire 1\nrepeat 3\nstep 1\nend\n") ≡ calls (0 ∷ 11 ∷ 27 ∷ 27 ∷ 27 ∷ [])
  pub nested : read_of (bytes "make 1 1 1\nrepeat 2\nrepeat 2\nstep 1\nend\ntake 1\nend\n") ≡ calls (0 ∷ 29 ∷ 29 ∷ 40 ∷ 29 ∷ 29 ∷ 40 ∷ [])
  pub nothing_repeated : read_of (bytes "make 1 1 1\nrepeat 3\nend\n") ≡ calls (0 ∷ [])
  pub no_ids : read_of (bytes "make 1 1 1\ngive 1\n") ≡ calls (0 ∷ 11 ∷ [])
  pub no_text : read_of [] ≡ bad_line 1
  pub no_newline : read_of (bytes "make 1 1 1\nstep 1") ≡ bad_line 2
  pub no_make : read_of (bytes "hire 1\nmake 1 1 1\n") ≡ bad_line 1
  pub second_make : read_of (bytes "make 1 1 1\nmake 1 1 1\n") ≡ bad_line 2
  pub two_spaces : read_of (bytes "make 1 1 1\nstep  1\n") ≡ bad_line 2
  pub space_at_end : read_of (bytes "make 1 1 1\nstep 1 \n") ≡ bad_line 2
  pub leading_zero : read_of (bytes "make 1 1 1\nstep 01\n") ≡ bad_line 2
  pub largest : read_of (bytes "make 1 1 1\nstep 4294967295\n") ≡ calls (0 ∷ 11 ∷ [])
  pub too_large : read_of (bytes "make 1 1 1\nstep 4294967296\n") ≡ bad_line 2
  pub no_times : read_of (bytes "make 1 1 1\nrepeat 0\n") ≡ bad_line 2
  pub too_often : read_of (bytes "make 1 1 1\nrepeat 1001\nend\n") ≡ bad_line 2
  -- a `repeat` left open lies before a line at fault in it; closed, it does not
  pub left_open : read_of (bytes "make 1 1 1\nrepeat 2\nfoo\n") ≡ bad_line 2
  pub fault_inside : read_of (bytes "make 1 1 1\nrepeat 2\nfoo\nend\n") ≡ bad_line 3
  pub end_too_many : read_of (bytes "make 1 1 1\nend\nfoo\n") ≡ bad_line 2
  -- a line that is unlawful opens no block and closes none
  pub not_opened : read_of (bytes "make 1 1 1\nrepeat 2\nrepeat 01\nend\nend\n") ≡ bad_line 3
  pub not_closed : read_of (bytes "make 1 1 1\nrepeat 2\nend 1\n") ≡ bad_line 2
  -- the fifth `repeat` in each other is at fault, and takes its `end`: with four, the outermost is left open
  pub too_deep : read_of (bytes "make 1 1 1\nrepeat 1\nrepeat 1\nrepeat 1\nrepeat 1\nrepeat 1\nend\nend\nend\nend\nend\n") ≡ bad_line 6
  pub too_deep_open : read_of (bytes "make 1 1 1\nrepeat 1\nrepeat 1\nrepeat 1\nrepeat 1\nrepeat 1\nend\nend\nend\nend\n") ≡ bad_line 2
