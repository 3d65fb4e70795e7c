-- The greatest numbers of a run, by value.
use Rattle.std.specs.Prelude.{◌≡◌, ◌^◌}
use Rattle.cl_front.specs.declared.limits.TheConstants.{TXN_NUMBER_MAX}
use Rattle.cl_link.specs.declared.link.TheConstants.{NUMBER_MAX}
use Rattle.cl_log.specs.declared.log.TheConstants.{LOG_NUMBER_MAX}

-- the greatest numbers have these values
pub record HaveValues : Type 0 where
  -- of a transaction in its session
  pub transactions : TXN_NUMBER_MAX ≡ 2 ^ 62
  -- of a message of a link
  pub messages : NUMBER_MAX ≡ 2 ^ 62
  -- of a record of a log
  pub records : LOG_NUMBER_MAX ≡ 2 ^ 62
