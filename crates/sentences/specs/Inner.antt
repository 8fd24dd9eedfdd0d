-- What the functions of the listing answer, as the listing that is returned. Assumes nothing.
use Rattle.std.specs.declared.result.Result.{Result}
use Rattle.std.specs.declared.result.Result.TheVariants.{Ok, Err}
use Rattle.std.specs.Prelude.{ℕ}
use Rattle.backoff.specs.Refusal.{reason_number}
use Rattle.backoff.specs.declared.Reason.{Reason}
use Rattle.sentences.specs.declared.Listing.{Listing}
use Rattle.sentences.specs.declared.Counted.{Counted}
use Rattle.sentences.specs.Listing.{refused_listing}

-- of so many sentences, or refused
abbrev pub listing_as : Result ℕ Reason → Listing
listing_as (Ok sentences) = record { number = 0; place = 0; sentences = sentences }
listing_as (Err reason) = refused_listing (reason_number reason)

abbrev pub listing_of : Result Counted Reason → Listing
listing_of (Ok counted) = record { number = 0; place = 0; sentences = counted.sentences }
listing_of (Err reason) = refused_listing (reason_number reason)
