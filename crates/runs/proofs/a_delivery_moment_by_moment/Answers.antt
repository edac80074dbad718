use Rattle.runs.proofs.Played.{delivery, delivery_places_lem}
use Rattle.runs.proofs.a_delivery_moment_by_moment.Goals as goal

pub returns : goal.returns
returns c = record { plays = search delivery; places = search delivery_places_lem }
