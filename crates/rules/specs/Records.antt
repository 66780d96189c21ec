-- Records: what kind one is, which of two is above the other, who holds one and who called it.
use Rattle.std.specs.Prelude.{ℕ, Bool, true, false, not, ◌&&◌, ◌||◌, List, ltb, eqb, get_or}
use Rattle.rules.specs.declared.Kind.{Kind}
use Rattle.rules.specs.declared.Kind.TheVariants.{Election, Command, Change, Commit}
use Rattle.rules.specs.declared.Record.{Record}
use Rattle.rules.specs.Nodes.{has}

-- what a place holds before a record is put there
abbrev pub blank : Record
blank = record { parent = 0; caller = 0; time = 0; version = 0; members = 0; kind = Election 0 }

-- the record that has a number
abbrev pub at : List Record → ℕ → Record
at records i = get_or records i blank

abbrev pub commit_kind : Kind → Bool
commit_kind (Election voters) = false
commit_kind (Command number) = false
commit_kind Change = false
commit_kind (Commit voters) = true

abbrev pub change_kind : Kind → Bool
change_kind (Election voters) = false
change_kind (Command number) = false
change_kind Change = true
change_kind (Commit voters) = false

abbrev pub entry_kind : Kind → Bool
entry_kind (Election voters) = false
entry_kind (Command number) = true
entry_kind Change = true
entry_kind (Commit voters) = false

abbrev pub is_commit : Record → Bool
is_commit r = commit_kind r.kind

abbrev pub is_change : Record → Bool
is_change r = change_kind r.kind

-- a command or a change: what a log has for entries
abbrev pub is_entry : Record → Bool
is_entry r = entry_kind r.kind

-- a is above b: by time, then by version, then a commit above a record that is no commit
unfoldable pub above : Record → Record → Bool
above a b =
    ltb b.time a.time
    || (eqb b.time a.time
    && (ltb b.version a.version || (eqb b.version a.version && (is_commit a && not (is_commit b)))))

-- an election, command or change is held by its caller alone, a commit by its voters
abbrev pub held_by : Kind → ℕ → ℕ → Bool
held_by (Election voters) caller node = eqb caller node
held_by (Command number) caller node = eqb caller node
held_by Change caller node = eqb caller node
held_by (Commit voters) caller node = has voters node

-- the node holds record r, whose number is i; record 0 is held by every node
unfoldable pub holds : ℕ → Record → ℕ → Bool
holds i r node = eqb i 0 || held_by r.kind r.caller node

-- the node called the record
unfoldable pub called : Record → ℕ → Bool
called r node = eqb r.caller node
