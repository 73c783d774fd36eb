-- The lines that are the same each time, and that more than one command puts (docs/FORMATS.md,
-- "Report").
use Rattle.std.specs.Prelude.{ℕ, List, codes}

-- the words are no command
unfoldable pub usage_line : List ℕ
usage_line = codes "vizrun: usage\n"

-- no port is there
unfoldable pub no_port_line : List ℕ
no_port_line = codes "script line 0 ActorRange\n"

-- a read failed
unfoldable pub read_fault_line : List ℕ
read_fault_line = codes "fault read\n"

-- a write failed
unfoldable pub write_fault_line : List ℕ
write_fault_line = codes "fault write\n"

-- memory ran out
unfoldable pub memory_line : List ℕ
memory_line = codes "memory\n"
