-- The rooms that a replayed log lends to its calls, each as large as the largest accepted call needs.
-- Assumes nothing.
use Rattle.std.specs.Prelude.{ℕ}

-- for Read: the largest A
abbrev pub read_room : ℕ
read_room = 30576

-- for Streams: three streams of the largest D
abbrev pub streams_room : ℕ
streams_room = 18444

-- for Build: the largest G
abbrev pub build_room : ℕ
build_room = 172800
