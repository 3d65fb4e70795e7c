pub mod Index
pub mod IndexedItems
pub mod Items
pub mod Laws
pub mod Live
pub mod ScanOrder
pub mod Search
pub mod Store
