-- The case of 01 as text, by computation. Assumes nothing.
use mathlib.Core.Path.{◌≡◌, refl}
use mathlib.Core.List.{[], ◌∷◌}
use lib.ListN.{replicate}
use Rattle.lists.specs.Lists.{listed}
use Rattle.orders.specs.declared.Order.TheVariants.{Halt}
use Rattle.engine.specs.declared.Log.{Log}
use Rattle.engine.specs.declared.Outcome.{Outcome}
use Rattle.report.specs.Text.{word, digits, item, line, order_text, held_text, delivery_line, start_line, outcome_text, refused_text, text}

abbrev pub halted : Log
halted = record { count = 1; entries = record { at = record { 0 = 28 }; what = record { stamp = record { 0 = 5 }; source = 0; order = Halt 7 } } ∷ [] }

abbrev pub case : Outcome
case = record { bound = 23; hosts = 3; starts = 1; refusals = replicate 16 0; logs = halted ∷ halted ∷ halted ∷ []; copies = 4 }

pub case_text : text (0, 0) case
    ≡ word "delta 23\nhost 0 at 28 stamp 5 from 0 halt 7\nhost 1 at 28 stamp 5 from 0 halt 7\nhost 2 at 28 stamp 5 from 0 halt 7\ncopies 4\n"
unfolding listed digits item line order_text held_text delivery_line start_line outcome_text refused_text text
case_text = refl

pub refused_text_lem : text (32, 5) case ≡ word "refused 32 5\n"
unfolding digits item refused_text text
refused_text_lem = refl
