-- Each case is computed: the definitions unfold, and both sides are one term. Assumes nothing.
use mathlib.Core.Path.{refl}
use Rattle.xdr.specs.Choose.{choose}
use Rattle.changer_elements.specs.Elements.{has_place, place_of, is_full, half}
use Rattle.changer_elements.specs.Slots.{named, is_again, some_again, names_none_twice, moved}
use Rattle.changer_elements.specs.Move.{is_movable, is_held, judge_move, move_medium, slots_after}
use Rattle.changer_elements.specs.MoveCases.{AcceptedCases, RefusedCases, OrderCases, TwiceCases, MoveCases}

accepted : AcceptedCases
unfolding choose has_place place_of is_full half moved is_movable is_held judge_move move_medium slots_after
accepted =
    record {
      slot_to_slot = refl;
      last_slot = refl;
      from_drive = refl;
      to_drive = refl;
      slots_while_open = refl;
      thirteen = refl;
      sixteen = refl;
      flags = refl;
      loads = refl;
      unloads = refl;
      refused_leaves = refl;
    }

refused : RefusedCases
unfolding choose has_place place_of is_full half is_movable is_held judge_move move_medium
refused =
    record {
      one_byte = refl;
      eleven = refl;
      source_two = refl;
      source_fifteen = refl;
      source_beyond = refl;
      source_transport = refl;
      source_high = refl;
      destination_two = refl;
      destination_beyond = refl;
      destination_transport = refl;
      destination_high = refl;
      transport_one = refl;
      transport_high = refl;
      full = refl;
      full_drive = refl;
      empty = refl;
      empty_drive = refl;
      itself_full = refl;
      itself_empty = refl;
      from_held = refl;
      to_held = refl;
    }

order : OrderCases
unfolding choose has_place place_of is_full half is_movable is_held judge_move move_medium
order =
    record {
      short_and_unknown = refl;
      unknown_and_full = refl;
      unknown_and_empty = refl;
      unknown_and_held = refl;
      full_and_empty = refl;
      full_and_held = refl;
      empty_and_held = refl;
    }

twice : TwiceCases
unfolding choose named is_again some_again names_none_twice
twice =
    record {
      none = refl;
      some = refl;
      all = refl;
      drive_and_slot = refl;
      two_slots = refl;
      three = refl;
      beside_others = refl;
      largest = refl;
    }

pub cases_hold : MoveCases
cases_hold = record { accepted = accepted; refused = refused; order = order; twice = twice }
