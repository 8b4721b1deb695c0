-- What is known of a main.
use Rattle.pin_core.specs.declared.view.View.{View}
use Rattle.pin_book.specs.declared.payload.Payload.{Ghosts}
use Rattle.pin_table.specs.declared.main_seat.Main.{Main}

-- what the main knows of the list
abbrev pub main_view : {P H : Type 0} {meanings : Ghosts P H} → Main P H meanings → View
main_view main = main.seat.me.0.core
