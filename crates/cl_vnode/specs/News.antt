-- What a safe record makes known. No public clause cites this module.
use Rattle.std.specs.Prelude.{Option, Some, None}
use Rattle.cl_log.specs.declared.records.LogRec.{LogRec}
use Rattle.cl_log.specs.declared.records.LogRec.TheVariants.{Prepared, Decide}
use Rattle.cl_vnode.specs.declared.news.News.{News}
use Rattle.cl_vnode.specs.declared.news.News.TheVariants.{Vote, Decision, Nothing}

-- what a record makes known
abbrev pub news_of : LogRec → News
news_of (Prepared txn) = Vote txn
news_of (Decide txn) = Decision
news_of content = Nothing

-- the same, where there is a record
abbrev pub news_in : Option LogRec → News
news_in None = Nothing
news_in (Some content) = news_of content
