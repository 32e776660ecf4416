-- The limits at the farm's edge. Code that keeps to them cites the constants of the same names.
use Rattle.std.specs.Prelude.{ℕ, ◌^◌}

-- the most bytes of a file that is read whole
abbrev pub most_file_bytes : ℕ
most_file_bytes = 2 ^ 31

-- the most lines of a script or of a list of tiles: a line's place among them has 32 bits
abbrev pub most_lines : ℕ
most_lines = 1000000

-- The most turns of a farm, each of which adds an entry to its history. No run reaches them: at a
-- billion turns a second they last for more than a hundred years. Below them no count of turns
-- passes 64 bits.
abbrev pub most_turns : ℕ
most_turns = 2 ^ 62

-- the most asks of one connection that wait for a reply: one client cannot fill the table of them
abbrev pub most_asks_of_one : ℕ
most_asks_of_one = 64

-- the most asks that wait for a reply: the room for them is taken when the farm starts
abbrev pub most_asks : ℕ
most_asks = 4096

-- the most connections that a front has open: each is looked for among all
abbrev pub most_sessions : ℕ
most_sessions = 1024

-- the most bytes that a port gives at once
abbrev pub most_piece_bytes : ℕ
most_piece_bytes = 4096

-- the most bytes that wait to be sent to one connection: who does not read them is closed
abbrev pub most_rest_bytes : ℕ
most_rest_bytes = 1048576

-- the most bytes of the head of an HTTP request
abbrev pub most_head_bytes : ℕ
most_head_bytes = 8192

-- the most header fields of the head of an HTTP request
abbrev pub most_head_fields : ℕ
most_head_fields = 32

-- the most bytes of a line of the control port
abbrev pub most_control_bytes : ℕ
most_control_bytes = 64
