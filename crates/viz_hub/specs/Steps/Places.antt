-- What contracts see of a pass within a call. Only the type and private contracts speak of it.
use Rattle.std.specs.Prelude.{[], Option, None, Some}
use Rattle.viz_turn.specs.Known.{Identity}
use Rattle.viz_turn.specs.Passes.{known}
use Rattle.viz_hub.specs.declared.place.Place.{Place}
use Rattle.viz_hub.specs.Passes.{PassKnown, with_sent, first_pass}

-- the hub of a pass that isn't there
abbrev pub nowhere : Identity
nowhere =
    record {
      which =
          record {
            words = 0;
            slots = 0;
            views_name = 0;
            atom = 0;
            block = 0;
            offset = 0;
            slot_names = [];
          };
      mark = 0;
    }

-- what is known of a place
abbrev pub shown : Place → PassKnown
shown place = with_sent place.told.sent place.told.last (known place.pass)

-- what is known of a pass that is there
abbrev pub known_of : Option Place → PassKnown
known_of None = first_pass nowhere
known_of (Some place) = shown place
